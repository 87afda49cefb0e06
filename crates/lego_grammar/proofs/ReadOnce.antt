-- A written term is read as at most one core, and a text denotes at most one list of entries.
use Rattle.std.proofs.Common.{◌≡◌, ℕ, Option, Some, None, List, [], ◌∷◌, ◌++◌, length, refl, sym, ap, ◌∙◌, subst}
use Rattle.std.proofs.lemmas.Bool.{false≢true}
use Rattle.lego_base.specs.Names.{AreDistinct}
use Rattle.lego_base.specs.declared.place.Place.{Place}
use Rattle.lego_term.specs.declared.binder.Binder.{Binder}
use Rattle.lego_term.specs.declared.binder.Mark.TheVariants.{Plain}
use Rattle.lego_term.specs.Levels.{Assignment, variable_level}
use Rattle.lego_term.specs.Trees.{Core, Var, Const, Univ, Sigma, Pair, App, Let}
use Rattle.lego_laws.specs.Entries.{Entry, core_bodies}
use Rattle.lego_laws.proofs.lemmas.principal.RuleTypesUnique.{head_forms_are_unique}
use Rattle.lego_lexer.specs.Commands.{CommandText, Whole}
use Rattle.lego_lexer.proofs.UniqueCuts.{scripts_unique}
use Rattle.lego_lexer.proofs.UniqueTokens.{tokens_unique}
use Rattle.lego_grammar.specs.Written.{Written, WrittenCommand}
use Rattle.lego_grammar.specs.Grammar.{Names}
use Rattle.lego_grammar.specs.Scopes.{LocalVariable, Scope, TypeVariables}
use Rattle.lego_grammar.specs.Reading.{binder, bind_core, project_core, Annotates, ReadsExplicitly}
use Rattle.lego_grammar.specs.Denotes.{grammar_tokens, IsWrittenAs, AreWrittenAs, IsScript, Declaration, AreDeclarations, Declares, declared_entry, ReadsBody, ReadsDeclarations, contents_at, Denotes}
use Rattle.lego_grammar.proofs.Unique.{one_reading}

some_is : {X : Type 0} {t u : X} → Some t ≡ Some u → t ≡ u
some_is e = cc

not_both : {X : Type 0} {o : Option X} {t : X} → o ≡ Some t → o ≡ None → ⊥
not_both p q = let e = sym p ∙ q in cc

pub one_annotation : {es : List Entry} {scope : Scope} {c t u : Core} → Annotates es scope c t → Annotates es scope c u → t ≡ u
one_annotation (Annotates.core p) (Annotates.core q) = refl
one_annotation (Annotates.core p) (Annotates.head_form q h) = absurd (false≢true (sym q ∙ p))
one_annotation (Annotates.head_form p h) (Annotates.core q) = absurd (false≢true (sym p ∙ q))
one_annotation {es} {t = t} {u = u} (Annotates.head_form p h) (Annotates.head_form q k) = head_forms_are_unique (core_bodies es) _ t u h k

sigma_parts : {x y : Binder} {a a' b b' : Core} → ◌≡◌ {A = Core} (Sigma x a b) (Sigma y a' b') → (x ≡ y) × (a ≡ a') × (b ≡ b')
sigma_parts e = (cc, cc, cc)

module _ {es : List Entry} {types : TypeVariables} where
  pub one_core : {scope : Scope} {s : Written} {c : Core} → ReadsExplicitly es types scope s c → {d : Core} → ReadsExplicitly es types scope s d → c ≡ d
  one_core (ReadsExplicitly.local p) (ReadsExplicitly.local q) = ap Var (some_is (sym p ∙ q))
  one_core (ReadsExplicitly.local p) (ReadsExplicitly.entry q r) = absurd (not_both p q)
  one_core (ReadsExplicitly.entry p r) (ReadsExplicitly.local q) = absurd (not_both q p)
  one_core (ReadsExplicitly.entry p r) (ReadsExplicitly.entry q t) = ap (λ (e : Entry). Const e.number) (some_is (sym r ∙ t))
  one_core ReadsExplicitly.prop ReadsExplicitly.prop = refl
  one_core (ReadsExplicitly.any_type p) (ReadsExplicitly.any_type q) = ap (λ u. Univ (variable_level u)) (some_is (sym p ∙ q))
  one_core ReadsExplicitly.type_at ReadsExplicitly.type_at = refl
  one_core (ReadsExplicitly.nameless {kind = kind} {mark = mark} r t) (ReadsExplicitly.nameless r' t') =
      let a = one_core r r' in let b = one_core t t' in λ z. bind_core kind (binder None mark) (a z) (b z)
  one_core (ReadsExplicitly.named {kind = kind} {mark = mark} {n = n} r t) (ReadsExplicitly.named r' t') =
      let a = one_core r r' in let b = one_core t t' in λ z. bind_core kind (binder (Some n) mark) (a z) (b z)
  one_core {scope} (ReadsExplicitly.local_definition {n = n} {t = t} r b) {d} (ReadsExplicitly.local_definition {b = core} r' b') =
      let m = one_core r r' in
      let c = one_core b (subst (λ z. ReadsExplicitly es types (LocalVariable.Defined n z ∷ scope) t core) (sym m) b') in
      λ z. Let (binder (Some n) Plain) (m z) (c z)
  one_core (ReadsExplicitly.apply {mark = mark} r t) (ReadsExplicitly.apply r' t') =
      let f = one_core r r' in let a = one_core t t' in λ z. App mark (f z) (a z)
  one_core {scope} (ReadsExplicitly.pair {x = x} {a = a} {b = b} t k r s) (ReadsExplicitly.pair t' k' r' s') =
      let c = one_core t t' in
      let p = sigma_parts (one_annotation (subst (λ z. Annotates es scope z (Sigma x a b)) c k) k') in
      let m = one_core r r' in let n = one_core s s' in
      λ z. Pair (p.0 z) (p.1 z) (p.2 z) (m z) (n z)
  one_core (ReadsExplicitly.project {part = part} r) (ReadsExplicitly.project r') = let m = one_core r r' in λ z. project_core part (m z)

one_body : (before : List Entry) (s : Option Written) (m n : Option Core) → ReadsBody before s m → ReadsBody before s n → m ≡ n
one_body before None None None p q = refl
one_body before (Some s) (Some m) (Some n) p q = let e = one_core p q in ap Some e
one_body before None None (Some n) p q = absurd q
one_body before None (Some m) n p q = absurd p
one_body before (Some s) None n p q = absurd p
one_body before (Some s) (Some m) None p q = absurd q

pub one_list : {before : List Entry} {ds : List Declaration} {es : List Entry} → ReadsDeclarations before ds es → {fs : List Entry} → ReadsDeclarations before ds fs → es ≡ fs
one_list ReadsDeclarations.none ReadsDeclarations.none = refl
one_list {before} (ReadsDeclarations.more {d = d} {ty = ty} {body = body} {ds = ds} {es = es} new t b rest) (ReadsDeclarations.more {ty = ty'} {body = body'} new' t' b' rest') =
    let e = one_core t t' in
    let f = one_body before d.body body body' b b' in
    let entry : declared_entry (length before) d ty body ≡ declared_entry (length before) d ty' body' = (λ z. declared_entry (length before) d (e z) (f z)) in
    let others = one_list (subst (λ x. ReadsDeclarations (before ++ x ∷ []) ds es) entry rest) rest' in
    λ z. entry z ∷ others z

module _ (names : Names) (distinct : AreDistinct names) where
  one_command : {text : CommandText} {c d : WrittenCommand} → IsWrittenAs names text c → IsWrittenAs names text d → c ≡ d
  one_command {text} {c} {d} p q =
      let e : grammar_tokens p.tokens ≡ grammar_tokens q.tokens = ap grammar_tokens (tokens_unique text.place text.bytes p.tokens q.tokens p.lexed q.lexed) in
      (one_reading names distinct p.parsed.reads q.parsed.reads (p.parsed.same ∙ e ∙ sym q.parsed.same)).1

  one_list_of_commands : {texts : List CommandText} {cs : List WrittenCommand} → AreWrittenAs names texts cs → {ds : List WrittenCommand} → AreWrittenAs names texts ds → cs ≡ ds
  one_list_of_commands AreWrittenAs.none AreWrittenAs.none = refl
  one_list_of_commands (AreWrittenAs.more p ps) (AreWrittenAs.more q qs) =
      let c = one_command p q in let cs = one_list_of_commands ps qs in λ z. c z ∷ cs z

  one_script : {place : Place} {text : List ℕ} {cs ds : List WrittenCommand} → IsScript names place text cs → IsScript names place text ds → cs ≡ ds
  one_script {place} {text} {cs} p q =
      let texts = (scripts_unique place text p.texts q.texts Whole Whole p.cut q.cut).0 in
      one_list_of_commands (subst (λ x. AreWrittenAs names x cs) texts p.written) q.written

  the_same_declarations : {cs : List WrittenCommand} {ds : List Declaration} → AreDeclarations cs ds → {es : List Declaration} → AreDeclarations cs es → ds ≡ es
  the_same_declarations AreDeclarations.none AreDeclarations.none = refl
  the_same_declarations (AreDeclarations.more p ps) (AreDeclarations.more q qs) =
      let d = some_is (sym p ∙ q) in let ds = the_same_declarations ps qs in λ z. d z ∷ ds z

  behind_first : {c d : WrittenCommand} {cs ds : List WrittenCommand} → ◌≡◌ {A = List WrittenCommand} (c ∷ cs) (d ∷ ds) → cs ≡ ds
  behind_first {cs = cs} e = ap (λ l. tail l) e
    where
      tail : List WrittenCommand → List WrittenCommand
      tail [] = []
      tail (x ∷ xs) = xs

  pub one_list_of_declarations : {place : Place} {text : List ℕ} {ds es : List Declaration} → Declares names place text ds → Declares names place text es → ds ≡ es
  one_list_of_declarations {ds = ds} p q =
      let commands = behind_first (one_script p.script q.script) in
      the_same_declarations (subst (λ cs. AreDeclarations cs ds) commands p.declarations) q.declarations

  pub one_content : {place : Place} {text : List ℕ} {v w : Assignment} {es fs : List Entry}
      → Denotes names place text v es → Denotes names place text w fs → contents_at v es ≡ contents_at w fs
  one_content p q =
      let ds = one_list_of_declarations p.declares q.declares in
      let entries = one_list (subst (λ ds. ReadsDeclarations [] ds p.entries) ds p.reads) q.reads in
      sym p.same ∙ (ap (contents_at []) entries ∙ q.same)
