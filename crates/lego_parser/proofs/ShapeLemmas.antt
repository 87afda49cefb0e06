-- What tokens are read as is built in the right shape.
use Rattle.std.proofs.Common.{◌≡◌, List, [], ◌∷◌, Bool, true, false, Some, None, map, refl, sym, ap, ◌∙◌, subst}
use Rattle.lego_term.specs.declared.binder.Mark.{Mark}
use Rattle.lego_grammar.specs.declared.surface.Part.{Part}
use Rattle.lego_grammar.specs.declared.surface.Surface.{Surface}
use Rattle.lego_grammar.specs.declared.surface.Surface.TheOpen as level
use Rattle.lego_grammar.specs.declared.surface.Surface.TheOpen.{Surface-F}
use Rattle.lego_grammar.specs.declared.surface.Surface.TheViews.{roll-Surface}
use Rattle.lego_grammar.specs.declared.surface.Surface.TheFolds.{map-Surface, fold-roll-Surface, ind-Surface}
use Rattle.lego_grammar.specs.declared.command.Act.{Act}
use Rattle.lego_grammar.specs.declared.command.Binding.{Binding}
use Rattle.lego_grammar.specs.declared.command.BindingKind.{BindingKind}
use Rattle.lego_grammar.specs.declared.command.BindingKind.TheVariants.{Assume, Define}
use Rattle.lego_grammar.specs.Written.{Written, Apply, Project, WrittenAct}
use Rattle.lego_grammar.specs.Surface.{written, written_step, applied, projected, written_kind, written_binding, written_act}
use Rattle.lego_grammar.specs.WrittenForm.{Shape, shape, shape_step, all_right, is_kind_right, are_right, is_right}
use Rattle.lego_grammar.proofs.Proper.{IsProper, IsProperKind, AreProper, IsProperAct}
use Rattle.lego_parser.specs.private.Trees.{built, built_step, built_kind, built_binding, built_act, is_application, is_projection, function_of, operand_of, whole_spine, whole_run}

-- the tree that is built is the written one, and of this shape
abbrev Agree : Written → Written → Shape → Type 0
Agree b w s = (b ≡ w) × ((s.right ≡ true) × ((is_application b ≡ s.application) × (is_projection b ≡ s.projection)))

abbrev IsKept : Surface → Type 0
IsKept s = IsProper (built s) → Agree (built s) (written s) (shape s)

from_step : (x : Surface-F Surface)
    → (IsProper (built_step (map-Surface Surface Written built x)) → Agree (built_step (map-Surface Surface Written built x)) (written_step (map-Surface Surface Written written x)) (shape_step (map-Surface Surface Shape shape x)))
    → IsKept (roll-Surface x)
from_step x f h =
    let b = fold-roll-Surface Written built_step x in
    let w = fold-roll-Surface Written written_step x in
    let s = fold-roll-Surface Shape shape_step x in
    let r = f (subst IsProper b h) in (
      b ∙ (r.0 ∙ sym w),
      (ap (λ z. z.right) s ∙ r.1.0, (ap is_application b ∙ (r.1.1.0 ∙ sym (ap (λ z. z.application) s)), ap is_projection b ∙ (r.1.1.1 ∙ sym (ap (λ z. z.projection) s)))),
    )

abbrev Sub : Type 0
Sub = (s : Surface) × IsKept s

-- the function and the arguments of an application
abbrev AllProper : List (Mark × Written) → Type 0
AllProper [] = Unit {0}
AllProper (x ∷ xs) = IsProper x.1 × AllProper xs

proper_applied : (f : Written) (xs : List (Mark × Written)) → IsProper (applied f xs) → IsProper f × AllProper xs
proper_applied f [] h = (h, tt)
proper_applied f (x ∷ xs) h = let r = proper_applied (Apply x.0 f x.1) xs h in (r.0.0, (r.0.1, r.1))

proper_projected : (m : Written) (parts : List Part) → IsProper (projected m parts) → IsProper m
proper_projected m [] h = h
proper_projected m (p ∷ parts) h = proper_projected (Project p m) parts h

is_applied : (f a : Written) (m : Mark) (xs : List (Mark × Written)) → (is_application (applied (Apply m f a) xs) ≡ true) × (is_projection (applied (Apply m f a) xs) ≡ false)
is_applied f a m [] = (refl, refl)
is_applied f a m (x ∷ xs) = is_applied (Apply m f a) x.1 x.0 xs

is_projected : (m : Written) (p : Part) (parts : List Part) → (is_application (projected (Project p m) parts) ≡ false) × (is_projection (projected (Project p m) parts) ≡ true)
is_projected m p [] = (refl, refl)
is_projected m p (q ∷ parts) = is_projected (Project p m) q parts

-- a proper function is none that is misshapen
function_is : (f : Written) → IsProper (function_of f) → (is_application f ≡ false) × (function_of f ≡ f)
function_is f h = by_test (is_application f) refl
  where
    by_test : (b : Bool) → is_application f ≡ b → (is_application f ≡ false) × (function_of f ≡ f)
    by_test true e = absurd ((rw e at h).0)
    by_test false e = (e, rw e refl)

operand_is : (m : Written) → IsProper (operand_of m) → (is_projection m ≡ false) × (operand_of m ≡ m)
operand_is m h = by_test (is_projection m) refl
  where
    by_test : (b : Bool) → is_projection m ≡ b → (is_projection m ≡ false) × (operand_of m ≡ m)
    by_test true e = absurd ((rw e at h).0)
    by_test false e = (e, rw e refl)

abbrev args : {A : Type 0} → (Surface → A) → List (Mark × Sub) → List (Mark × A)
args f ys = map (λ (x : Mark × Surface). (x.0, f x.1)) (map (λ (y : Mark × Sub). (y.0, y.1.0)) ys)

kept_args : (ys : List (Mark × Sub)) → AllProper (args built ys) → (args built ys ≡ args written ys) × (all_right (args shape ys) ≡ true)
kept_args [] h = (refl, refl)
kept_args (y ∷ ys) h =
    let r = y.1.1 h.0 in
    let rs = kept_args ys h.1 in
    (rw (r.0, rs.0) refl, rw (r.1.0, rs.1) refl)

kept_spine : (f : Surface) → IsKept f → (ys : List (Mark × Sub)) → IsProper (whole_spine (built f) (args built ys))
    → Agree (whole_spine (built f) (args built ys)) (applied (written f) (args written ys)) (shape_step (level.Apply (shape f) (args shape ys)))
kept_spine f kf [] h = absurd (h.0)
kept_spine f kf (y ∷ ys) h =
    let p = proper_applied (function_of (built f)) (args built (y ∷ ys)) h in
    let e = function_is (built f) p.0 in
    let rf = kf (subst IsProper e.1 p.0) in
    let rs = kept_args (y ∷ ys) p.1 in
    let none : (shape f).application ≡ false = sym rf.1.1.0 ∙ e.0 in
    let kinds = is_applied (function_of (built f)) (built y.1.0) y.0 (args built ys) in (
      ap (λ g. applied g (args built (y ∷ ys))) (e.1 ∙ rf.0) ∙ ap (λ xs. applied (written f) xs) rs.0,
      (rw (rf.1.0, none, rs.1) refl, kinds),
    )

kept_run : (m : Surface) → IsKept m → (parts : List Part) → IsProper (whole_run (built m) parts)
    → Agree (whole_run (built m) parts) (projected (written m) parts) (shape_step (level.Project (shape m) parts))
kept_run m km [] h = absurd (h.0)
kept_run m km (p ∷ parts) h =
    let e = operand_is (built m) (proper_projected (operand_of (built m)) (p ∷ parts) h) in
    let rm = km (subst IsProper e.1 (proper_projected (operand_of (built m)) (p ∷ parts) h)) in
    let none : (shape m).projection ≡ false = sym rm.1.1.1 ∙ e.0 in
    let kinds = is_projected (operand_of (built m)) p parts in (
      ap (λ g. projected g (p ∷ parts)) (e.1 ∙ rm.0),
      (rw (rm.1.0, none) refl, kinds),
    )

kept_at : (y : Surface-F Sub) → IsKept (roll-Surface (map-Surface Sub Surface (λ e. e.0) y))
kept_at (level.Name p n) = from_step (level.Name p n) (λ h. (refl, (refl, (refl, refl))))
kept_at level.Prop = from_step level.Prop (λ h. (refl, (refl, (refl, refl))))
kept_at (level.AnyType p) = from_step (level.AnyType p) (λ h. (refl, (refl, (refl, refl))))
kept_at (level.TypeAt n) = from_step (level.TypeAt n) (λ h. (refl, (refl, (refl, refl))))
kept_at (level.Hole p n) = from_step (level.Hole p n) (λ h. (refl, (refl, (refl, refl))))
kept_at (level.Bind k m ns a b) =
    from_step (level.Bind k m ns a.0 b.0) (λ h. let ra = a.1 h.1.0 in let rb = b.1 h.1.1 in (rw (ra.0, rb.0) refl, (rw (ra.1.0, rb.1.0) refl, (refl, refl))))
kept_at (level.Local n a b) =
    from_step (level.Local n a.0 b.0) (λ h. let ra = a.1 h.0 in let rb = b.1 h.1 in (rw (ra.0, rb.0) refl, (rw (ra.1.0, rb.1.0) refl, (refl, refl))))
kept_at (level.Apply f ys) = from_step (level.Apply f.0 (map (λ (y : Mark × Sub). (y.0, y.1.0)) ys)) (kept_spine f.0 f.1 ys)
kept_at (level.Pair m n a) =
    from_step (level.Pair m.0 n.0 a.0)
    (λ h. let rm = m.1 h.0 in let rn = n.1 h.1.0 in let ra = a.1 h.1.1 in (rw (rm.0, rn.0, ra.0) refl, (rw (rm.1.0, rn.1.0, ra.1.0) refl, (refl, refl))))
kept_at (level.Project m parts) = from_step (level.Project m.0 parts) (kept_run m.0 m.1 parts)

pub kept : (s : Surface) → IsKept s
kept = ind-Surface IsKept (λ x y is. subst (λ z. IsKept (roll-Surface z)) is (kept_at y))

-- so with all terms of a command
kept_kind : (k : BindingKind) → IsProperKind (built_kind k) → (built_kind k ≡ written_kind k) × (is_kind_right k ≡ true)
kept_kind (Assume mark ty) h = let r = kept ty h in (rw r.0 refl, r.1.0)
kept_kind (Define body None) h = let r = kept body h in (rw r.0 refl, r.1.0)
kept_kind (Define body (Some ty)) h = let r = kept body h.0 in let q = kept ty h.1 in (rw (r.0, q.0) refl, rw (r.1.0, q.1.0) refl)

kept_bindings : (bs : List Binding) → AreProper (map built_binding bs) → (map built_binding bs ≡ map written_binding bs) × (are_right bs ≡ true)
kept_bindings [] h = (refl, refl)
kept_bindings (b ∷ bs) h = let r = kept_kind b.kind h.0.kind in let rs = kept_bindings bs h.1 in (rw (r.0, rs.0) refl, rw (r.1, rs.1) refl)

pub kept_act : (a : Act) → IsProperAct (built_act a) → (built_act a ≡ written_act a) × (is_right a ≡ true)
kept_act (Act.Bind bindings) h = let r = kept_bindings bindings h in (ap (λ bs. WrittenAct.Bindings bs) r.0, r.1)
kept_act (Act.Goal name ty) h = let r = kept ty h in (ap (λ s. WrittenAct.Goal name s) r.0, r.1.0)
kept_act (Act.Intros places names) h = (refl, refl)
kept_act (Act.Refine term) h = let r = kept term h in (ap (λ s. WrittenAct.Refine s) r.0, r.1.0)
kept_act (Act.Claim ty) h = let r = kept ty h in (ap (λ s. WrittenAct.Claim s) r.0, r.1.0)
kept_act (Act.Next n) h = (refl, refl)
kept_act Act.Assumption h = (refl, refl)
kept_act (Act.Equiv ty) h = let r = kept ty h in (ap (λ s. WrittenAct.Equiv s) r.0, r.1.0)
kept_act (Act.Save name) h = (refl, refl)
kept_act Act.KillRef h = (refl, refl)
kept_act (Act.Undo n) h = (refl, refl)
kept_act (Act.Forget place name) h = (refl, refl)
kept_act (Act.Discharge place name) h = (refl, refl)
kept_act Act.Prf h = (refl, refl)
kept_act Act.Ctxt h = (refl, refl)
kept_act (Act.Hnf term) h = let r = kept term h in (ap (λ s. WrittenAct.Hnf s) r.0, r.1.0)
kept_act (Act.Normal term) h = let r = kept term h in (ap (λ s. WrittenAct.Normal s) r.0, r.1.0)
kept_act Act.Explicit h = (refl, refl)
kept_act Act.Implicit h = (refl, refl)
kept_act (Act.Show term) h = let r = kept term h in (ap (λ s. WrittenAct.Show s) r.0, r.1.0)
