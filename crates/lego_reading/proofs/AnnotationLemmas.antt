-- The annotation of a pair.
use Rattle.std.proofs.Common.{◌≡◌, ℕ, ◌≤◌, List, length, false, Option, Result, Ok, Err, IfOk, IfErr, Bor, refl, sym, ap, ◌∙◌, subst}
use Rattle.lego_term.specs.declared.binder.Binder.{Binder}
use Rattle.lego_term.specs.declared.seen.Seen.{Seen}
use Rattle.lego_term.specs.declared.term.Term.{Term}
use Rattle.lego_term.specs.declared.term.Node.{Node}
use Rattle.lego_term.specs.declared.term.Node.TheVariants as node
use Rattle.lego_term.specs.Node.{shown}
use Rattle.lego_term.specs.declared.fault.TermFault.{TermFault}
use Rattle.lego_term.specs.declared.fault.TermFault.TheVariants as term
use Rattle.lego_term.specs.Trees.{Core, Sigma, loose}
use Rattle.lego_term.specs.BodyMap.{BodyMap, bodies_in, AreClosed}
use Rattle.lego_term.specs.Sequences.{HeadForm, head_step}
use Rattle.lego_reduce.specs.declared.fault.ReduceFault.{ReduceFault}
use Rattle.lego_reduce.specs.declared.fault.ReduceFault.TheVariants as reduce
use Rattle.lego_reduce.specs.declared.head_form.Reduced.{Reduced}
use Rattle.lego_reduce.specs.Reduction.{Reduces}
use Rattle.lego_laws.specs.Entries.{Entry, core_bodies}
use Rattle.lego_laws.proofs.lemmas.principal.Scoped.{scoped_head}
use Rattle.lego_grammar.specs.Scopes.{Scope, put_values}
use Rattle.lego_grammar.specs.Reading.{Annotates, is_sigma}
use Rattle.lego_reading.specs.declared.annotation.SigmaType.{SigmaType}
use Rattle.lego_reading.specs.declared.fault.ReadFault.{ReadFault}
use Rattle.lego_reading.specs.declared.fault.ReadFault.TheVariants as fault
use Rattle.lego_reading.specs.Failures.{seen_in, HasNoHeadForm}
use Rattle.lego_reading.specs.private.Faults.{of_term}
use Rattle.lego_reading.specs.private.Values.{PutsValues}
use Rattle.lego_reading.specs.private.Annotations.{sigma_tree, IsNotAnnotated, IsAnnotated, EndsAt}

module _ (b : BodyMap) (es : List Entry) (are : bodies_in b ≡ core_bodies es) (limit : ℕ) (scope : Scope) (c t : Core) where
  reduces_in : (r : Result Reduced ReduceFault) → Reduces (head_step (bodies_in b)) t limit r → Reduces (head_step (core_bodies es)) t limit r
  reduces_in r h = subst (λ (f : ℕ → Option Core). Reduces (head_step f) t limit r) are h

  pub ends : (r : Reduced) → AreClosed b → Reduces (head_step (bodies_in b)) t limit (Ok r) → EndsAt es limit scope c t (Ok r.term)
  ends r closed h =
      let form : HeadForm (core_bodies es) t r.term = (r.steps, (reduces_in (Ok r) h).0) in
      (form, scoped_head (core_bodies es) (λ k u e. closed k u (ap (λ (f : ℕ → Option Core). f k) are ∙ e)) form)

  pub ends_over : (seen : Seen) (f : ReduceFault) → f ≡ reduce.Budget → seen ≡ seen_in scope t → Reduces (head_step (bodies_in b)) t limit (Err f)
      → EndsAt es limit scope c t (Err (fault.Budget seen))
  ends_over seen f e is h = λ same none.
      subst (λ z. IsNotAnnotated es limit scope c (fault.Budget z)) (sym (is ∙ ap (seen_in scope) same))
      (IsNotAnnotated.no_head_form none (HasNoHeadForm.budget (subst (λ z. Reduces (head_step (core_bodies es)) z limit (Err reduce.Budget)) same
      (subst (λ z. Reduces (head_step (core_bodies es)) t limit (Err z)) e (reduces_in (Err f) h)))))

  pub ends_large : (f : ReduceFault) (i j : ℕ) → f ≡ reduce.TooLarge i j → Reduces (head_step (bodies_in b)) t limit (Err f)
      → EndsAt es limit scope c t (Err (fault.TooLarge i j))
  ends_large f i j e h = λ same none.
      let r = subst (λ z. Reduces (head_step (core_bodies es)) z limit (Err (reduce.TooLarge i j))) same
      (subst (λ z. Reduces (head_step (core_bodies es)) t limit (Err z)) e (reduces_in (Err f) h)) in
      IsNotAnnotated.no_head_form none (HasNoHeadForm.head_too_large r.0 r.2 r.3 r.4)

module _ (es : List Entry) (limit : ℕ) (scope : Scope) (c : Core) where
  pub puts_not : (f : TermFault) → is_sigma c ≡ false → PutsValues scope c (Err f) → IsNotAnnotated es limit scope c (of_term f)
  puts_not (term.TooLarge i j) none h = IsNotAnnotated.no_head_form none (HasNoHeadForm.values_too_large h.0 h.1)
  puts_not term.Memory none h = IsNotAnnotated.memory

  pub annotates_itself : (x : Binder) (a b : Core) → Sigma x a b ≡ c → Annotates es scope c (Sigma x a b)
  annotates_itself x a b e = subst (λ z. Annotates es scope z (Sigma x a b)) e (Annotates.core refl)

  pub annotates_end : (t end h : Core) → is_sigma c ≡ false → t ≡ put_values scope 0 c → HeadForm (core_bodies es) t end → end ≡ h → Annotates es scope c h
  annotates_end t end h none same form is =
      subst (Annotates es scope c) is (Annotates.head_form none (subst (λ z. HeadForm (core_bodies es) z end) same form))

  -- the annotation of which the code shares the parts
  pub shared_annotates : (x : Binder) (a b : Core) (r : Result SigmaType ReadFault) → Annotates es scope c (Sigma x a b) → loose (Sigma x a b) ≤ length scope
      → IfOk r (λ made. made ≡ record { binder = x; first = a; second = b }) → IfErr r (λ given. given ≡ fault.Memory) → IsAnnotated es limit scope c r
  shared_annotates x a b (Ok made) k l e f =
      subst (λ z. Annotates es scope c (sigma_tree z) × (loose (sigma_tree z) ≤ length scope)) (sym e) (k, l)
  shared_annotates x a b (Err given) k l e f = subst (λ z. IsNotAnnotated es limit scope c z) (sym f) IsNotAnnotated.memory

-- the root of no Sigma type
pub shown_no_sigma : (n : Node) → ((x : Binder) (a b : Bor Term) → n ≡ node.Sigma x a b → ⊥) → is_sigma (shown n) ≡ false
shown_no_sigma (node.Var i) other = refl
shown_no_sigma (node.Const k) other = refl
shown_no_sigma node.Prop other = refl
shown_no_sigma (node.Univ l) other = refl
shown_no_sigma (node.Pi x a b) other = refl
shown_no_sigma (node.Lam x a b) other = refl
shown_no_sigma (node.App m a b) other = refl
shown_no_sigma (node.Sigma x a b) other = absurd (other x a b refl)
shown_no_sigma (node.Pair x a b m n) other = refl
shown_no_sigma (node.Fst a) other = refl
shown_no_sigma (node.Snd a) other = refl
shown_no_sigma (node.Local x a b) other = refl

pub annotated_at : (es : List Entry) (limit : ℕ) {a b : Scope} (c : Core) (r : Result SigmaType ReadFault) → b ≡ a → IsAnnotated es limit b c r → IsAnnotated es limit a c r
annotated_at es limit c r e h = subst (λ z. IsAnnotated es limit z c r) e h
