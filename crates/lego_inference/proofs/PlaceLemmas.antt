-- The places that a check comes to stand in its task.
use Rattle.std.proofs.Common.{◌≡◌, ℕ, ◌⊎◌, inl, inr, refl, List, ⊎_elim, subst, sym}
use Rattle.lego_term.specs.Trees.{Core}
use Rattle.lego_laws.specs.Entries.{Entry}
use Rattle.lego_laws.specs.Places.{Want, Nothing, AType, Site, Part, Within, Task, Stands, Comes, IsReached}

-- a part stands where the whole does
pub stands_part : {t : Task} {s s' : Site} {n n' : Core} {w w' : Want} {i : ℕ} → Stands t s n w → Part t.entries s n w i s' n' w' → Stands t s' n' w'
stands_part (Stands.in_core k) p = Stands.in_core (Within.part k p)
stands_part (Stands.in_written e k) p = Stands.in_written e (Within.part k p)

-- the part of a whole of which nothing is wanted, or this is
data PartOf (es : List Entry) (s : Site) (n : Core) (w : Want) (i : ℕ) (s' : Site) (n' : Core) (w' : Want) : Type 0 where
  alike : Part es s n w i s' n' w' → PartOf es s n w i s' n' w'
  body : {w₁ : Want} → Part es s n w i s' n' w₁ → w' ≡ Nothing → PartOf es s n w i s' n' w'

of_any : {es : List Entry} {s s' : Site} {n n' : Core} {w' : Want} {i : ℕ} (w : Want) → Part es s n Nothing i s' n' w' → PartOf es s n w i s' n' w'
of_any w Part.pi_domain = alike Part.pi_domain
of_any w Part.pi_body = alike Part.pi_body
of_any w Part.lam_domain = alike Part.lam_domain
of_any w Part.lam_body = alike Part.lam_body
of_any w Part.function = alike Part.function
of_any w (Part.argument r h) = alike (Part.argument r h)
of_any w Part.sigma_domain = alike Part.sigma_domain
of_any w Part.sigma_body = alike Part.sigma_body
of_any w Part.pair_domain = alike Part.pair_domain
of_any w Part.pair_body = alike Part.pair_body
of_any w Part.pair_first = alike Part.pair_first
of_any w Part.pair_second = alike Part.pair_second
of_any w Part.fst_operand = alike Part.fst_operand
of_any w Part.snd_operand = alike Part.snd_operand
of_any w Part.local_value = alike Part.local_value
of_any w Part.local_body = body Part.local_body refl

-- what is wanted where a check comes to is what its place wants, or nothing
pub record Standing (t : Task) (s : Site) (n : Core) (w : Want) : Type 0 where
  pub wanted : Want
  pub stands : Stands t s n wanted
  pub alike : (w ≡ wanted) ⊎ (w ≡ Nothing)

standing_part : {t : Task} {s s' : Site} {n n' : Core} {w w' : Want} {i : ℕ} → Stands t s n w → PartOf t.entries s n w i s' n' w' → Standing t s' n' w'
standing_part {w' = w'} k (alike p) = record { wanted = w'; stands = stands_part k p; alike = inl refl }
standing_part k (body {w₁ = w₁} p e) = record { wanted = w₁; stands = stands_part k p; alike = inr e }

pub comes_stands : {t : Task} {s : Site} {n : Core} {w : Want} → Comes t s n w → Standing t s n w
comes_stands Comes.root = record { wanted = _; stands = Stands.in_core Within.itself; alike = inl refl }
comes_stands (Comes.written e h) = record { wanted = AType; stands = Stands.in_written e Within.itself; alike = inl refl }
comes_stands (Comes.part c p h) = let k = comes_stands c in standing_part k.stands (of_any k.wanted p)

pub reached_stands : {t : Task} {s : Site} {n : Core} {w : Want} → IsReached t s n w → Standing t s n w
reached_stands (IsReached.root h k) = record { wanted = _; stands = Stands.in_core Within.itself; alike = inl refl }
reached_stands (IsReached.written e h k) = record { wanted = AType; stands = Stands.in_written e Within.itself; alike = inl refl }
reached_stands (IsReached.part c p h k) = let q = comes_stands c in standing_part q.stands (of_any q.wanted p)

-- where something is wanted, that is what the place wants
pub wanted_stands : {t : Task} {s : Site} {n : Core} {w : Want} → (w ≡ Nothing → ⊥) → IsReached t s n w → Stands t s n w
wanted_stands {t} {s} {n} {w} some r =
    let k = reached_stands r in
    ⊎_elim (λ (e : w ≡ k.wanted). subst (Stands t s n) (sym e) k.stands) (λ (e : w ≡ Nothing). absurd (some e)) k.alike
