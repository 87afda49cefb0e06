-- Each gathered constraint is asked by two universes that face one another, and their levels are those of the terms and bodies.
use Rattle.std.proofs.Common.{◌≡◌, ℕ, suc, List, [], ◌∷◌, ◌++◌, refl, sym, ap, ◌∙◌, subst}
use Rattle.std.specs.Prelude.{All}
use Rattle.std.specs.List.{AllByRecursion}
use Rattle.std.proofs.lemmas.List.Elements.{All-nil, All-cons}
use Rattle.lego_term.specs.declared.level.Level.{Level}
use Rattle.lego_term.specs.Levels.{LevelPair}
use Rattle.lego_term.specs.Trees.{Core, Univ}
use Rattle.lego_term.specs.Parts.{Shape, APi, ALam, AnApp, ASigma, APair, AFst, ASnd}
use Rattle.lego_term.specs.Sequences.{HeadForm}
use Rattle.lego_laws.specs.Parallel.{CoreBodies}
use Rattle.lego_laws.specs.Facing.{Order, Cumulativity, Conversion, order_at, Faces, Asks, order_under, IsAsked}
use Rattle.lego_laws.specs.Comparison.{asked, Compared, m_equal, m_heads, FormsCompared, f_var, f_const, f_prop, f_prop_univ, f_univ, f_pi, f_lam, f_app, f_sigma, f_pair, f_fst, f_snd}
use Rattle.lego_level.specs.declared.constraint.Constraint.{Constraint}
use Rattle.lego_level.specs.Graphs.{pairs_of}

-- the order of a part, under the order of the whole
pub turned : (w f : Order) (s : Shape) (i : ℕ) → order_under w (order_at f s i) ≡ order_at (order_under w f) s i
turned Cumulativity f s i = refl
turned Conversion f s i = refl

pub whole : (w : Order) → order_under w Cumulativity ≡ w
whole Cumulativity = refl
whole Conversion = refl

converts_at : (o : Order) (s : Shape) (i : ℕ) → order_at Cumulativity s i ≡ Conversion → order_at o s i ≡ Conversion
converts_at Cumulativity s i e = e
converts_at Conversion s i e = refl

keeps_at : (o : Order) (s : Shape) (i : ℕ) → order_at Cumulativity s i ≡ Cumulativity → order_at o s i ≡ o
keeps_at Cumulativity s i e = e
keeps_at Conversion s i e = refl

append : (P : LevelPair → Type 0) (k l : List LevelPair) → AllByRecursion P k → AllByRecursion P l → AllByRecursion P (k ++ l)
append P [] l h i = i
append P (c ∷ k) l h i = (h.0, append P k l h.1 i)

module _ (w : Order) (b : CoreBodies) (t u : Core) where
  abbrev AllAsked : List LevelPair → Type 0
  AllAsked k = AllByRecursion (λ c. IsAsked w b t u c.low c.high) k

  universes_ask : (o f : Order) (n : ℕ) (l m : Level) → order_under w f ≡ o → Faces b t u f n (Univ l) (Univ m) → AllAsked (asked o l m)
  universes_ask Cumulativity f n l m e faces = (record { on_path = f; deeper = n; left = l; right = m; faces = faces; asks = Asks.up }, tt)
  universes_ask Conversion f n l m e faces = (
    record { on_path = f; deeper = n; left = l; right = m; faces = faces; asks = Asks.up },
    (record { on_path = f; deeper = n; left = l; right = m; faces = faces; asks = subst (λ o. Asks o l m m l) (sym e) Asks.down }, tt),
  )

  -- the order under that of the whole, at a part that is to convert and at one that is compared as the whole is
  converts : {o : Order} (f : Order) (s : Shape) (i : ℕ) → order_under w f ≡ o → order_at Cumulativity s i ≡ Conversion → order_under w (order_at f s i) ≡ Conversion
  converts {o} f s i e c = turned w f s i ∙ (ap (λ z. order_at z s i) e ∙ converts_at o s i c)

  keeps : {o : Order} (f : Order) (s : Shape) (i : ℕ) → order_under w f ≡ o → order_at Cumulativity s i ≡ Cumulativity → order_under w (order_at f s i) ≡ o
  keeps {o} f s i e c = turned w f s i ∙ (ap (λ z. order_at z s i) e ∙ keeps_at o s i c)

  mutual
    pub asked_of_terms : {o : Order} {x y : Core} {k : List LevelPair} (f : Order) (n : ℕ) → order_under w f ≡ o
        → ((h j : Core) → HeadForm b x h → HeadForm b y j → Faces b t u f n h j) → Compared b o x y k → AllAsked k
    asked_of_terms f n e front (m_equal q) = tt
    asked_of_terms f n e front (m_heads {t' = h} {u' = j} _ p q c) = asked_of_forms f n e (front h j p q) c

    asked_of_forms : {o : Order} {h j : Core} {k : List LevelPair} (f : Order) (n : ℕ) → order_under w f ≡ o
        → Faces b t u f n h j → FormsCompared b o h j k → AllAsked k
    asked_of_forms f n e faces f_var = tt
    asked_of_forms f n e faces f_const = tt
    asked_of_forms f n e faces f_prop = tt
    asked_of_forms f n e faces f_prop_univ = tt
    asked_of_forms f n e faces (f_univ {o = o} {l = l} {m = m}) = universes_ask o f n l m e faces
    asked_of_forms f n e faces (f_pi {k = k} {l = l} p q) =
        append (λ c. IsAsked w b t u c.low c.high) k l (asked_of_terms (order_at f APi 0) n (converts f APi 0 e refl) (λ h j x y. Faces.turn 0 faces refl refl refl refl x y) p)
        (asked_of_terms (order_at f APi 1) (suc n) (keeps f APi 1 e refl) (λ h j x y. Faces.turn 1 faces refl refl refl refl x y) q)
    asked_of_forms f n e faces (f_sigma {k = k} {l = l} p q) =
        append (λ c. IsAsked w b t u c.low c.high) k l (asked_of_terms (order_at f ASigma 0) n (keeps f ASigma 0 e refl) (λ h j x y. Faces.turn 0 faces refl refl refl refl x y) p)
        (asked_of_terms (order_at f ASigma 1) (suc n) (keeps f ASigma 1 e refl) (λ h j x y. Faces.turn 1 faces refl refl refl refl x y) q)
    asked_of_forms f n e faces (f_lam {k = k} {l = l} p q) =
        append (λ c. IsAsked w b t u c.low c.high) k l (asked_of_terms (order_at f ALam 0) n (converts f ALam 0 e refl) (λ h j x y. Faces.turn 0 faces refl refl refl refl x y) p)
        (asked_of_terms (order_at f ALam 1) (suc n) (converts f ALam 1 e refl) (λ h j x y. Faces.turn 1 faces refl refl refl refl x y) q)
    asked_of_forms f n e faces (f_app {k = k} {l = l} p q) =
        append (λ c. IsAsked w b t u c.low c.high) k l (asked_of_terms (order_at f AnApp 0) n (converts f AnApp 0 e refl) (λ h j x y. Faces.turn 0 faces refl refl refl refl x y) p)
        (asked_of_terms (order_at f AnApp 1) n (converts f AnApp 1 e refl) (λ h j x y. Faces.turn 1 faces refl refl refl refl x y) q)
    asked_of_forms f n e faces (f_pair {k = k} {l = l} {p = i} {q = j} p q z v) =
        append (λ c. IsAsked w b t u c.low c.high) (k ++ l) (i ++ j)
        (append (λ c. IsAsked w b t u c.low c.high) k l (asked_of_terms (order_at f APair 0) n (converts f APair 0 e refl) (λ h j x y. Faces.turn 0 faces refl refl refl refl x y) p)
        (asked_of_terms (order_at f APair 1) (suc n) (converts f APair 1 e refl) (λ h j x y. Faces.turn 1 faces refl refl refl refl x y) q))
        (append (λ c. IsAsked w b t u c.low c.high) i j (asked_of_terms (order_at f APair 2) n (converts f APair 2 e refl) (λ h j x y. Faces.turn 2 faces refl refl refl refl x y) z)
        (asked_of_terms (order_at f APair 3) n (converts f APair 3 e refl) (λ h j x y. Faces.turn 3 faces refl refl refl refl x y) v))
    asked_of_forms f n e faces (f_fst p) = asked_of_terms (order_at f AFst 0) n (converts f AFst 0 e refl) (λ h j x y. Faces.turn 0 faces refl refl refl refl x y) p
    asked_of_forms f n e faces (f_snd p) = asked_of_terms (order_at f ASnd 0) n (converts f ASnd 0 e refl) (λ h j x y. Faces.turn 0 faces refl refl refl refl x y) p

-- the same of the constraints themselves
pub all_of_pairs : (P : Level → Level → Type 0) (found : List Constraint) → AllByRecursion (λ c. P c.low c.high) (pairs_of found) → All (λ c. P c.low c.high) found
all_of_pairs P [] h = All-nil (λ c. P c.low c.high)
all_of_pairs P (c ∷ cs) h = All-cons (λ c. P c.low c.high) c cs h.0 (all_of_pairs P cs h.1)
