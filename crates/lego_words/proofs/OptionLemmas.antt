-- One option in front of other words.
use Rattle.std.proofs.Common.{◌≡◌, ℕ, ◌≤◌, ◌<◌, List, [], ◌∷◌, ◌++◌, length, get_or, slice_get, true, false, Option, Some, None, codes, refl, sym, ap, ◌∙◌, arith}
use Rattle.std.specs.Prelude.{String, Result, IfSome, IfNone, IfOk, IfErr}
use Rattle.std.specs.Option.{ok_or}
use Rattle.std.specs.String.{string_bytes}
use Rattle.std.specs.declared.alloc.Global.{Global}
use Rattle.lego_words.specs.Words.{IsSteps, Steps, Joined, Stop, IsUsageBehind, texts}
use Rattle.lego_words.specs.private.Given.{AreOfFormBehind, any_steps, Passes, IsOption, WritesSteps}
use Rattle.lego_words.specs.declared.options.Options.{Options}
use Rattle.lego_words.specs.declared.form.Given.{Given}
use Rattle.lego_words.specs.declared.form.Next.{Next}
use Rattle.lego_words.proofs.FormLemmas.{at_stop, at_steps, at_joined, at_other, at_second, other_steps, wrong_here, wrong_end, wrong_value, HasValue}

-- the words begin with this one
pub record Begins (words : List (List ℕ)) (word : List ℕ) : Type 0 where
  pub rest : List (List ℕ)
  pub is : words ≡ word ∷ rest

pub begins : (words : List (String Global)) (word d : String Global) → 0 < length words → word ≡ get_or words 0 d → Begins (texts words) (string_bytes word)
begins [] word d l e = absurd (omega arith)
begins (w ∷ words) word d l e = record { rest = texts words; is = ap (λ (x : String Global). string_bytes x ∷ texts words) (sym e) }

pub second : (words : List (String Global)) (text : String Global) → 1 < length words → text ≡ get_or words 1 text
    → slice_get (texts words) 1 ≡ Some (string_bytes text)
second [] text l e = absurd (omega arith)
second (w ∷ []) text l e = absurd (omega arith)
second (w ∷ v ∷ words) text l e = ap (λ (x : String Global). Some (string_bytes x)) (sym e)

pub no_second : (words : List (String Global)) → length words ≤ 1 → slice_get (texts words) 1 ≡ None
no_second [] l = refl
no_second (w ∷ []) l = refl
no_second (w ∷ v ∷ words) l = absurd (omega arith)

pub ok_from : {P Q : Next → Type 0} (o : Option Next) {r : Result Next ℕ} (k : ℕ) → r ≡ ok_or o k → IfSome o P → ((x : Next) → P x → Q x) → IfOk r Q
ok_from None k e h f = rw e tt
ok_from (Some x) k e h f = rw e (f x h)

pub err_from : {P : Type 0} (Q : ℕ → Type 0) (o : Option Next) {r : Result Next ℕ} (k : ℕ) → r ≡ ok_or o k → IfNone o P → (P → Q k) → IfErr r Q
err_from Q None k e h f = rw e (f h)
err_from Q (Some x) k e h f = rw e tt

module _ (given : Given) {words : List (List ℕ)} {word : List ℕ} (b : Begins words word) where
  abbrev stopped : Given
  stopped = record { steps = given.steps; stop = true }

  pub stop_passes : word ≡ codes "--stop" → given.stop ≡ false → Passes given (word ∷ []) stopped
  stop_passes e off more = ((λ h. (h.0, (at_stop e h.1).1)), λ h. (h.0, rw off (Stop e h.1)))

  pub is_stop : word ≡ codes "--stop" → given.stop ≡ false → IsOption given words (record { given = stopped; taken = 1 })
  is_stop e off = rw (b.is) (record {
    passes = stop_passes e off;
    some = omega arith;
    within = omega arith;
    counted = rw off (omega arith);
  })

  pub second_stop : word ≡ codes "--stop" → given.stop ≡ true → IsUsageBehind (any_steps given.steps) given.stop words 0
  second_stop e on = rw (b.is) (wrong_here (λ more o h. let off = (at_stop e h).0 in let bad : true ≡ false = sym on ∙ off in cc))

  pub second_steps : (word ≡ codes "--stop" → ⊥) → given.steps ≡ true → IsUsageBehind (any_steps given.steps) given.stop words 0
  second_steps p on = rw (b.is) (wrong_here (λ more o h. at_second p (rw on at h)))

  pub no_option : (word ≡ codes "--stop" → ⊥) → (word ≡ codes "--steps" → ⊥) → ((text : List ℕ) → word ≡ codes "--steps=" ++ text → ⊥)
      → IsUsageBehind (any_steps given.steps) given.stop words 0
  no_option p q r = rw (b.is) (wrong_here (λ more o h. at_other p q r h))

  module _ (none : given.steps ≡ false) where
    pub no_value : word ≡ codes "--steps" → slice_get words 1 ≡ None → IsUsageBehind (any_steps given.steps) given.stop words 1
    no_value e missing = rw (none, b.is) (by_rest b.rest (rw b.is at missing))
      where
        by_rest : (rest : List (List ℕ)) → slice_get (word ∷ rest) 1 ≡ None → IsUsageBehind None given.stop (word ∷ rest) 1
        by_rest [] m = wrong_end e
        by_rest (text ∷ rest) m = cc

    -- the second word too
    record Continues (text : List ℕ) : Type 0 where
      pub rest : List (List ℕ)
      pub is : words ≡ word ∷ text ∷ rest

    continues : {text : List ℕ} → slice_get words 1 ≡ Some text → Continues text
    continues {text} there = by_rest b.rest b.is (rw b.is at there)
      where
        by_rest : (rest : List (List ℕ)) → words ≡ word ∷ rest → slice_get (word ∷ rest) 1 ≡ Some text → Continues text
        by_rest [] is m = cc
        by_rest (x ∷ rest) is m = record { rest = rest; is = cc }

    pub bad_value : {text : List ℕ} → word ≡ codes "--steps" → slice_get words 1 ≡ Some text → ((n : ℕ) → IsSteps text n → ⊥)
        → IsUsageBehind (any_steps given.steps) given.stop words 1
    bad_value e there never = let w = continues there in rw (none, w.is) (wrong_value e never)

    pub bad_joined : {text : List ℕ} → word ≡ codes "--steps=" ++ text → ((n : ℕ) → IsSteps text n → ⊥) → IsUsageBehind (any_steps given.steps) given.stop words 0
    bad_joined e never = rw b.is (wrong_here (λ more o h. let j = at_joined e h in never j.n j.writes))

    value_passes : {text : List ℕ} {n : ℕ} → word ≡ codes "--steps" → IsSteps text n
        → Passes given (word ∷ text ∷ []) (record { steps = true; stop = given.stop })
    value_passes {text} {n} e t more = ((λ h. forth (at_steps e h.1)), λ h. let w = other_steps n h.1 in (w.0, rw none (Steps e t w.1)))
      where
        forth : {o : Options} → HasValue (any_steps given.steps) given.stop (text ∷ more) o → AreOfFormBehind (record { steps = true; stop = given.stop }) more
        forth v =
            let rest : v.rest ≡ more = cc (v.is) in
            let w = other_steps 1 v.behind in
            (w.0, rw (← rest) w.1)

    pub is_value : {text : List ℕ} {next : Next} → word ≡ codes "--steps" → slice_get words 1 ≡ Some text → WritesSteps given text 2 next → IsOption given words next
    is_value {text} {next} e there w = let k = continues there in record {
      passes = rw (k.is, w.taken_is, w.now) (value_passes e w.is);
      some = omega (arith, w.taken_is);
      within = rw (k.is, w.taken_is) (omega arith);
      counted = rw (w.now, w.taken_is, none) (omega arith);
    }

    joined_passes : {text : List ℕ} {n : ℕ} → word ≡ codes "--steps=" ++ text → IsSteps text n
        → Passes given (word ∷ []) (record { steps = true; stop = given.stop })
    joined_passes {text} {n} e t more = ((λ h. other_steps 1 (at_joined e h.1).behind), λ h. let w = other_steps n h.1 in (w.0, rw none (Joined e t w.1)))

    pub is_joined : {text : List ℕ} {next : Next} → word ≡ codes "--steps=" ++ text → WritesSteps given text 1 next → IsOption given words next
    is_joined {text} {next} e w = record {
      passes = rw (b.is, w.taken_is, w.now) (joined_passes e w.is);
      some = omega (arith, w.taken_is);
      within = rw (b.is, w.taken_is) (omega arith);
      counted = rw (w.now, w.taken_is, none) (omega arith);
    }
