-- What is read has no implicit Sigma, and each binding has names, with a place for each.
use Rattle.std.proofs.Common.{◌≡◌, ℕ, suc, ◌<◌, List, [], ◌∷◌, length, Some, None, refl, ap, arith}
use Rattle.lego_grammar.specs.Written.{Written, Bind, Local, Apply, Pair, Project, NameAt, WrittenKind, Assumed, Defined, WrittenBinding, WrittenAct, WrittenCommand}
use Rattle.lego_grammar.specs.Grammar.{Names, Nested, Form, MayBind, NameList, Reads, ReadsBinding, ReadsBindings, TermWord, NumberWord, NameWord, LoneWord, ReadsAct, ReadsCommand, places_of, names_of}

abbrev pub IsProper : Written → Type 0
IsProper (Bind kind mark ns a b) = MayBind kind mark × (IsProper a × IsProper b)
IsProper (Local n a b) = IsProper a × IsProper b
IsProper (Apply mark f x) = IsProper f × IsProper x
IsProper (Pair m n a) = IsProper m × (IsProper n × IsProper a)
IsProper (Project part m) = IsProper m
IsProper _ = Unit {0}

abbrev pub IsProperKind : WrittenKind → Type 0
IsProperKind (Assumed mark a) = IsProper a
IsProperKind (Defined m None) = IsProper m
IsProperKind (Defined m (Some a)) = IsProper m × IsProper a

pub record IsProperBinding (b : WrittenBinding) : Type 0 where
  pub places : length b.places ≡ length b.names
  pub some : 0 < length b.names
  pub kind : IsProperKind b.kind

abbrev pub AreProper : List WrittenBinding → Type 0
AreProper [] = Unit {0}
AreProper (b ∷ bs) = IsProperBinding b × AreProper bs

abbrev pub IsProperAct : WrittenAct → Type 0
IsProperAct (WrittenAct.Bindings bs) = AreProper bs
IsProperAct (WrittenAct.Goal name s) = IsProper s
IsProperAct (WrittenAct.Refine s) = IsProper s
IsProperAct (WrittenAct.Claim s) = IsProper s
IsProperAct (WrittenAct.Equiv s) = IsProper s
IsProperAct (WrittenAct.Hnf s) = IsProper s
IsProperAct (WrittenAct.Normal s) = IsProper s
IsProperAct (WrittenAct.Show s) = IsProper s
IsProperAct _ = Unit {0}

module _ (names : Names) where
  pub proper : {d : ℕ} {form : Form} {ts : List Nested} {s : Written} → Reads names d form ts s → IsProper s
  proper (Reads.term_ending r) = proper r
  proper (Reads.term_sum r) = proper r
  proper (Reads.arrow p a b) = (tt, (proper a, proper b))
  proper (Reads.ending_binder r) = proper r
  proper (Reads.apply_binder f a) = (proper f, proper a)
  proper (Reads.apply_bar_binder p f a) = (proper f, proper a)
  proper (Reads.hash_ending p a b) = (tt, (proper a, proper b))
  proper (Reads.sum_spine r) = proper r
  proper (Reads.hash_sum p a b) = (tt, (proper a, proper b))
  proper (Reads.spine_post r) = proper r
  proper (Reads.apply f a) = (proper f, proper a)
  proper (Reads.apply_bar p f a) = (proper f, proper a)
  proper (Reads.post_atom r) = proper r
  proper (Reads.first p q r) = proper r
  proper (Reads.second p q r) = proper r
  proper (Reads.name p e) = tt
  proper (Reads.prop p) = tt
  proper (Reads.any_type p) = tt
  proper (Reads.type_at p q r s) = tt
  proper (Reads.goal p q) = tt
  proper (Reads.parens p q r) = proper r
  proper (Reads.pair p q r s m n a) = (proper m, (proper n, proper a))
  proper (Reads.bind p q r mb ns a m) = (mb, (proper a, proper m))
  proper (Reads.local p q r s e m b) = (proper m, proper b)

  same_long : (xs : List NameAt) → length (places_of xs) ≡ length (names_of xs)
  same_long [] = refl
  same_long (x ∷ xs) = ap suc (same_long xs)

  some_name : {d : ℕ} {ts : List Nested} {xs : List NameAt} → NameList names d ts xs → 0 < length (names_of xs)
  some_name (NameList.one e) = omega arith
  some_name (NameList.more e l) = omega arith

  proper_binding : {ts : List Nested} {b : WrittenBinding} → ReadsBinding names ts b → IsProperBinding b
  proper_binding (ReadsBinding.assume p q r {xs = xs} l a) = record { places = same_long xs; some = some_name l; kind = proper a }
  proper_binding (ReadsBinding.define p q r s e m) = record { places = refl; some = omega arith; kind = proper m }
  proper_binding (ReadsBinding.define_typed p q r s t e m a) = record { places = refl; some = omega arith; kind = (proper m, proper a) }

  proper_bindings : {ts : List Nested} {bs : List WrittenBinding} → ReadsBindings names ts bs → AreProper bs
  proper_bindings (ReadsBindings.one r) = (proper_binding r, tt)
  proper_bindings (ReadsBindings.more r rs) = (proper_binding r, proper_bindings rs)

  proper_act : {ts : List Nested} {act : WrittenAct} → ReadsAct names ts act → IsProperAct act
  proper_act (ReadsAct.bindings r) = proper_bindings r
  proper_act (ReadsAct.show r) = proper r
  proper_act (ReadsAct.with_term TermWord.refine r) = proper r
  proper_act (ReadsAct.with_term TermWord.claim r) = proper r
  proper_act (ReadsAct.with_term TermWord.equiv r) = proper r
  proper_act (ReadsAct.with_term TermWord.hnf r) = proper r
  proper_act (ReadsAct.with_term TermWord.normal r) = proper r
  proper_act (ReadsAct.with_term TermWord.goal r) = proper r
  proper_act (ReadsAct.named_goal e r) = proper r
  proper_act (ReadsAct.intros r) = tt
  proper_act (ReadsAct.with_number NumberWord.next) = tt
  proper_act (ReadsAct.with_number NumberWord.undo) = tt
  proper_act (ReadsAct.with_name NameWord.forget e) = tt
  proper_act (ReadsAct.with_name NameWord.discharge e) = tt
  proper_act (ReadsAct.with_name NameWord.save e) = tt
  proper_act (ReadsAct.alone LoneWord.assumption) = tt
  proper_act (ReadsAct.alone LoneWord.save) = tt
  proper_act (ReadsAct.alone LoneWord.kill) = tt
  proper_act (ReadsAct.alone LoneWord.prf) = tt
  proper_act (ReadsAct.alone LoneWord.ctxt) = tt
  proper_act (ReadsAct.alone LoneWord.explicit) = tt
  proper_act (ReadsAct.alone LoneWord.implicit) = tt

  pub proper_command : {ts : List Nested} {c : WrittenCommand} → ReadsCommand names ts c → IsProperAct c.act
  proper_command (ReadsCommand.command p r) = proper_act r
