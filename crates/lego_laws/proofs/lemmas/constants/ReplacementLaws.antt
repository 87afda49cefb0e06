-- Replacement, for the thirteen rules.
use Rattle.std.proofs.Common.{◌≡◌, ℕ, Option, Some, None, IfSome, List, subst}
use Rattle.lego_term.specs.Trees.{Term}
use Rattle.lego_term.specs.Steps.{Converts}
use Rattle.lego_laws.specs.Entries.{Constant, constant_of, bodies_of}
use Rattle.lego_laws.specs.Judgement.{Valid, Has}
use Rattle.lego_laws.specs.Valid.{AreValid}
use Rattle.lego_laws.specs.Derivations.{types_of, Derives, ValidLocals, v_none, v_local}
use Rattle.lego_laws.specs.Replacement.{replace, under_locals, replaced_locals, Replaces, Replacement}
use Rattle.lego_laws.proofs.lemmas.typing.Rules.{known, derived, judged, valid_locals, type_from}
use Rattle.lego_laws.proofs.lemmas.typing.Entries.{types_closed, bodies_closed, body_from}
use Rattle.lego_laws.proofs.lemmas.typing.TypingLaws.{constants_valid}
use Rattle.lego_laws.proofs.lemmas.constants.Replaced.{Stands, r-derives}

module _ (es es' : List Constant) (x : AreValid es) (x' : AreValid es') (s : ℕ → Term) (h : List Term) (outer : Valid es' h) (stand : (k : ℕ) (e : Constant) → constant_of es k ≡ Some e → Replaces s es' h k e) where
  body_converts : (k : ℕ) (o : Option Term) (t : Term) → o ≡ Some t → IfSome o (λ m. Converts (bodies_of es') (s k) (replace s m)) → Converts (bodies_of es') (s k) (replace s t)
  body_converts k None t e h = cc
  body_converts k (Some m) t e h = let is : m ≡ t = cc in subst (λ z. Converts (bodies_of es') (s k) (replace s z)) is h

  stands : Stands s (types_of es) (bodies_of es) (types_of es') (bodies_of es') h
  stands =
      record {
        typed = λ k a q. let y = type_from (constant_of es k) a q in subst (λ z. Derives (types_of es') (bodies_of es') h (s k) (replace s z)) y.2 (derived (stand k y.0 y.1).typed).0;
        converts = λ k t q. let y = body_from (constant_of es k) t q in body_converts k y.0.body t y.2 (stand k y.0 y.1).body;
      }

  replaced : {g : List Term} {m a : Term} → Derives (types_of es) (bodies_of es) g m a → Derives (types_of es') (bodies_of es') (replaced_locals s h g) (replace (under_locals s g) m) (replace (under_locals s g) a)
  replaced d =
      let v = constants_valid es x in
      let v' = constants_valid es' x' in
      r-derives s (types_of es) (bodies_of es) (types_of es') (bodies_of es') h (types_closed v) (bodies_closed v) (types_closed v') (bodies_closed v') stands d

  replaced_valid : {g : List Term} → ValidLocals (types_of es) (bodies_of es) g → ValidLocals (types_of es') (bodies_of es') (replaced_locals s h g)
  replaced_valid v_none = (known outer).locals
  replaced_valid (v_local v d) = v_local (replaced_valid v) (replaced d)

  pub replaced_judgement : (g : List Term) (m a : Term) → Has es g m a → Has es' (replaced_locals s h g) (replace (under_locals s g) m) (replace (under_locals s g) a)
  replaced_judgement g m a d =
      let k = derived d in
      judged (replaced k.0) (valid_locals x'.valid (replaced_valid k.1.locals))

pub replacement : Replacement
replacement es es' x x' s h outer stand g m a d = replaced_judgement es es' x x' s h outer stand g m a d
