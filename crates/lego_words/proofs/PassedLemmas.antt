-- Words behind those that were passed.
use Rattle.std.proofs.Common.{◌≡◌, ℕ, zero, suc, ◌+◌, ◌-◌, ◌≤◌, List, [], ◌∷◌, ◌++◌, length, take, drop, refl, ap, ◌∙◌, subst, arith, append-nil, append_assoc, sym}
use Rattle.std.specs.Prelude.{String}
use Rattle.std.specs.declared.alloc.Global.{Global}
use Rattle.std.proofs.Math.Seq.{take-add}
use Rattle.std.proofs.lemmas.List.{take-append-drop, length-take-le, length-drop, take_all}
use Rattle.lego_words.specs.Words.{End, IsUsageBehind, texts}
use Rattle.lego_words.specs.private.Given.{AreOfFormBehind, Passes, any_steps}
use Rattle.lego_words.specs.declared.form.Given.{Given}
use Rattle.lego_words.proofs.FormLemmas.{wrong_behind}

texts-drop : (words : List (String Global)) (at : ℕ) → texts (drop at words) ≡ drop at (texts words)
texts-drop words zero = refl
texts-drop [] (suc at) = refl
texts-drop (w ∷ words) (suc at) = texts-drop words at

pub rest_is : (words : List (String Global)) (at : ℕ) → texts (take (length words - at) (drop at words)) ≡ drop at (texts words)
rest_is words at =
    let all : take (length words - at) (drop at words) ≡ drop at words = take_all (length words - at) (drop at words) (omega (arith, length-drop at words)) in
    rw all (texts-drop words at)

-- an option behind words that were passed passes with them
pub passes_on : (old mid new : Given) (words : List (List ℕ)) (at k : ℕ) → Passes old (take at words) mid → Passes mid (take k (drop at words)) new
    → Passes old (take (at + k) words) new
passes_on old mid new words at k p q more =
    let more_of : take (at + k) words ++ more ≡ take at words ++ (take k (drop at words) ++ more) =
    ap (λ ws. ws ++ more) (take-add at k words) ∙ append_assoc (take at words) (take k (drop at words)) more in (
      (λ h. (q more).0 ((p (take k (drop at words) ++ more)).0 (subst (AreOfFormBehind old) more_of h))),
      λ h. subst (AreOfFormBehind old) (sym more_of) ((p (take k (drop at words) ++ more)).1 ((q more).1 h)),
    )

-- a word that is wrong behind those that were passed
pub wrong_at : (old new : Given) (words : List (List ℕ)) (at k : ℕ) → at ≤ length words
    → Passes old (take at words) new → IsUsageBehind (any_steps new.steps) new.stop (drop at words) k → IsUsageBehind (any_steps old.steps) old.stop words (at + k)
wrong_at old new words at k l p u =
    let e : length (take at words) + k ≡ at + k = ap (λ n. n + k) (length-take-le at words l) in
    subst (λ i. IsUsageBehind (any_steps old.steps) old.stop words i) e
    (subst (λ (ws : List (List ℕ)). IsUsageBehind (any_steps old.steps) old.stop ws (length (take at words) + k)) (take-append-drop at words) (wrong_behind old new (take at words) p u))

-- all words were passed
pub form_all : (old new : Given) (words : List (List ℕ)) (at : ℕ) → length words ≤ at → Passes old (take at words) new → AreOfFormBehind old words
form_all old new words at l p =
    let all : take at words ++ [] ≡ words = append-nil (take at words) ∙ take_all at words l in
    rw all at ((p []).1 (_, End))
