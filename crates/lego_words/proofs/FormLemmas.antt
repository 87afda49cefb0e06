-- The written form at its first words.
use Rattle.std.proofs.Common.{◌≡◌, ℕ, suc, ◌+◌, ◌<◌, List, [], ◌∷◌, ◌++◌, length, take, get_or, Bool, true, false, Option, Some, None, codes, refl, sym, ap, ◌∙◌, subst, arith, append_assoc}
use Rattle.std.proofs.Math.Seq.{take-append-add}
use Rattle.std.proofs.lemmas.List.{length-append}
use Rattle.lego_words.specs.Words.{IsSteps, WrittenBehind, End, Steps, Joined, Stop, BeginsBehind, IsUsageBehind}
use Rattle.lego_words.specs.private.Given.{Passes, any_steps}
use Rattle.lego_words.specs.declared.options.Options.{Options}
use Rattle.lego_words.specs.declared.form.Given.{Given}

-- the three texts differ

apart : (m n : ℕ) → m < n → m ≡ n → ⊥
apart m n l e = absurd (omega arith)

pub stop_or_steps : {word : List ℕ} → word ≡ codes "--stop" → word ≡ codes "--steps" → ⊥
stop_or_steps d e =
    let both : codes "--steps" ≡ codes "--stop" = sym e ∙ d in
    apart 101 111 (omega arith) (ap (λ (l : List ℕ). get_or l 4 0) both)

pub stop_or_joined : {word text : List ℕ} → word ≡ codes "--stop" → word ≡ codes "--steps=" ++ text → ⊥
stop_or_joined {text = text} d e =
    let both : codes "--steps=" ++ text ≡ codes "--stop" = sym e ∙ d in
    apart 101 111 (omega arith) (ap (λ (l : List ℕ). get_or l 4 0) both)

pub steps_or_joined : {word text : List ℕ} → word ≡ codes "--steps" → word ≡ codes "--steps=" ++ text → ⊥
steps_or_joined {text = text} d e =
    let both : codes "--steps" ≡ codes "--steps=" ++ text = sym d ∙ e in
    apart 0 61 (omega arith) (ap (λ (l : List ℕ). get_or l 7 0) both)

same_text : {word one other : List ℕ} → word ≡ codes "--steps=" ++ one → word ≡ codes "--steps=" ++ other → one ≡ other
same_text {one = one} {other = other} d e =
    let both : codes "--steps=" ++ one ≡ codes "--steps=" ++ other = sym d ∙ e in cc

-- what stands behind `--stop`
pub at_stop : {s : Option ℕ} {b : Bool} {word : List ℕ} {more : List (List ℕ)} {o : Options}
    → word ≡ codes "--stop" → WrittenBehind s b (word ∷ more) o → (b ≡ false) × WrittenBehind s true more o
at_stop d (Steps e t h) = absurd (stop_or_steps d e)
at_stop d (Joined e t h) = absurd (stop_or_joined d e)
at_stop d (Stop e h) = (refl, h)

-- what stands behind `--steps`
pub record HasValue (s : Option ℕ) (b : Bool) (more : List (List ℕ)) (o : Options) : Type 0 where
  pub none : s ≡ None
  pub text : List ℕ
  pub rest : List (List ℕ)
  pub is : more ≡ text ∷ rest
  pub n : ℕ
  pub writes : IsSteps text n
  pub behind : WrittenBehind (Some n) b rest o

pub at_steps : {s : Option ℕ} {b : Bool} {word : List ℕ} {more : List (List ℕ)} {o : Options}
    → word ≡ codes "--steps" → WrittenBehind s b (word ∷ more) o → HasValue s b more o
at_steps d (Steps {text = text} {rest = rest} {n = n} e t h) =
    record { none = refl; text = text; rest = rest; is = refl; n = n; writes = t; behind = h }
at_steps d (Joined e t h) = absurd (steps_or_joined d e)
at_steps d (Stop e h) = absurd (stop_or_steps e d)

-- what stands behind `--steps=N`
pub record HasJoined (s : Option ℕ) (b : Bool) (text : List ℕ) (more : List (List ℕ)) (o : Options) : Type 0 where
  pub none : s ≡ None
  pub n : ℕ
  pub writes : IsSteps text n
  pub behind : WrittenBehind (Some n) b more o

pub at_joined : {s : Option ℕ} {b : Bool} {word text : List ℕ} {more : List (List ℕ)} {o : Options}
    → word ≡ codes "--steps=" ++ text → WrittenBehind s b (word ∷ more) o → HasJoined s b text more o
at_joined d (Steps e t h) = absurd (steps_or_joined e d)
at_joined d (Joined {n = n} e t h) =
    record { none = refl; n = n; writes = subst (λ x. IsSteps x n) (sym (same_text d e)) t; behind = h }
at_joined d (Stop e h) = absurd (stop_or_joined e d)

-- no option stands here
pub at_other : {s : Option ℕ} {b : Bool} {word : List ℕ} {more : List (List ℕ)} {o : Options}
    → (word ≡ codes "--stop" → ⊥) → (word ≡ codes "--steps" → ⊥) → ((text : List ℕ) → word ≡ codes "--steps=" ++ text → ⊥)
    → WrittenBehind s b (word ∷ more) o → ⊥
at_other p q r (Steps e t h) = q e
at_other p q r (Joined {text = text} e t h) = r text e
at_other p q r (Stop e h) = p e

-- steps are given once
pub at_second : {n : ℕ} {b : Bool} {word : List ℕ} {more : List (List ℕ)} {o : Options}
    → (word ≡ codes "--stop" → ⊥) → WrittenBehind (Some n) b (word ∷ more) o → ⊥
at_second p (Stop e h) = p e

-- a text writes one number
pub one_number : {text : List ℕ} {m n : ℕ} → IsSteps text m → IsSteps text n → m ≡ n
one_number a b = sym a.value ∙ b.value

-- which steps were given decides nothing about the words that follow
pub other_steps : {m : ℕ} (n : ℕ) {b : Bool} {words : List (List ℕ)} {o : Options} → WrittenBehind (Some m) b words o
    → (p : Options) × WrittenBehind (Some n) b words p
other_steps n End = (_, End)
other_steps n (Stop e h) = let more = other_steps n h in (more.0, Stop e more.1)

-- no list of the form goes on with this word
pub wrong_here : {s : Option ℕ} {b : Bool} {word : List ℕ} {rest : List (List ℕ)}
    → ((more : List (List ℕ)) (o : Options) → WrittenBehind s b (word ∷ more) o → ⊥) → IsUsageBehind s b (word ∷ rest) 0
wrong_here {rest = rest} never = record {
  wrong = never rest;
  before = ([], _, End);
  with_it = λ l h. never h.0 h.1 h.2;
  within = omega arith;
}

one_step : IsSteps (49 ∷ []) 1
one_step = record { digits = (omega arith, (omega arith, tt)); short = omega arith; value = refl; low = omega arith; high = omega arith }

value_may_stand : (b : Bool) {word : List ℕ} → word ≡ codes "--steps" → BeginsBehind None b (word ∷ [])
value_may_stand b e = ((49 ∷ []) ∷ [], _, Steps e one_step End)

-- a value is missing behind `--steps`
pub wrong_end : {b : Bool} {word : List ℕ} → word ≡ codes "--steps" → IsUsageBehind None b (word ∷ []) 1
wrong_end {b = b} {word = word} e = record {
  wrong = λ o h. let v = at_steps e h in let bad : [] ≡ v.text ∷ v.rest = v.is in cc;
  before = value_may_stand b e;
  with_it = λ l h. absurd (omega arith);
  within = omega arith;
}

-- no value stands behind `--steps`
pub wrong_value : {b : Bool} {word text : List ℕ} {rest : List (List ℕ)}
    → word ≡ codes "--steps" → ((n : ℕ) → IsSteps text n → ⊥) → IsUsageBehind None b (word ∷ text ∷ rest) 1
wrong_value {b = b} {word = word} {text = text} {rest = rest} e never = record {
  wrong = λ o h. refuted (at_steps e h);
  before = value_may_stand b e;
  with_it = λ l h. refuted (at_steps e h.2);
  within = omega arith;
}
  where
    refuted : {more : List (List ℕ)} {o : Options} → HasValue None b (text ∷ more) o → ⊥
    refuted v = never v.n (let e : text ≡ v.text = cc (v.is) in rw e v.writes)

-- what stands behind words that were passed is wrong behind them all
pub wrong_behind : (old new : Given) (passed : List (List ℕ)) {words : List (List ℕ)} {index : ℕ}
    → Passes old passed new → IsUsageBehind (any_steps new.steps) new.stop words index
    → IsUsageBehind (any_steps old.steps) old.stop (passed ++ words) (length passed + index)
wrong_behind old new passed {words} {index} p u = record {
  wrong = λ o h. let behind = (p words).0 (o, h) in u.wrong behind.0 behind.1;
  before = goes (take index words) (front passed index) u.before;
  with_it = λ l h. u.with_it (omega (arith, length-append passed words)) (comes (take (suc index) words) (front-suc passed index) h);
  within = omega (arith, length-append passed words, u.within);
}
  where
    front : (xs : List (List ℕ)) (k : ℕ) → take (length xs + k) (xs ++ words) ≡ xs ++ take k words
    front xs k = take-append-add xs words k

    front-suc : (xs : List (List ℕ)) (k : ℕ) → take (suc (length xs + k)) (xs ++ words) ≡ xs ++ take (suc k) words
    front-suc xs k = let e : suc (length xs + k) ≡ length xs + suc k = omega arith in rw e (front xs (suc k))

    goes : (ws : List (List ℕ)) {all : List (List ℕ)} → all ≡ passed ++ ws → BeginsBehind (any_steps new.steps) new.stop ws → BeginsBehind (any_steps old.steps) old.stop all
    goes ws e b = let h = (p (ws ++ b.0)).1 (b.1, b.2) in (b.0, h.0, rw (e, append_assoc) h.1)

    comes : (ws : List (List ℕ)) {all : List (List ℕ)} → all ≡ passed ++ ws → BeginsBehind (any_steps old.steps) old.stop all → BeginsBehind (any_steps new.steps) new.stop ws
    comes ws e b = let h = (p (ws ++ b.0)).0 (b.1, rw (e, append_assoc) at b.2) in (b.0, h.0, h.1)
