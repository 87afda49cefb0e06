-- What the trees of written terms stand for, and their sizes, form by form.
use Rattle.std.proofs.Common.{◌≡◌, ℕ, zero, suc, ◌+◌, ◌≤◌, ◌<◌, List, [], ◌∷◌, length, map, get_or, sym, ap, ◌∙◌, arith}
use Rattle.lego_base.specs.declared.place.Place.{Place}
use Rattle.lego_term.specs.declared.binder.Mark.{Mark}
use Rattle.lego_grammar.specs.declared.surface.Kind.{Kind}
use Rattle.lego_grammar.specs.declared.surface.Part.{Part}
use Rattle.lego_grammar.specs.declared.surface.Surface.{Surface}
use Rattle.lego_grammar.specs.declared.surface.Surface.TheOpen as level
use Rattle.lego_grammar.specs.declared.surface.Surface.TheVariants as surface
use Rattle.lego_grammar.specs.declared.surface.Surface.TheFolds.{fold-roll-Surface}
use Rattle.lego_grammar.specs.Surface.{written, written_step, applied, projected}
use Rattle.lego_grammar.specs.Written.{Written}
use Rattle.lego_reading.specs.private.Binders.{written_argument}
use Rattle.lego_reading.specs.private.Sizes.{total, size_step, nodes}

pub written-Name : (p : Place) (n : ℕ) → written (surface.Name p n) ≡ Written.Named p n
written-Name p n = ap written (sym (surface.rolls-Name p n)) ∙ fold-roll-Surface Written written_step (level.Name p n)

pub written-Prop : written surface.Prop ≡ Written.WrittenProp
written-Prop = ap written (sym surface.rolls-Prop) ∙ fold-roll-Surface Written written_step level.Prop

pub written-AnyType : (p : Place) → written (surface.AnyType p) ≡ Written.AnyType p
written-AnyType p = ap written (sym (surface.rolls-AnyType p)) ∙ fold-roll-Surface Written written_step (level.AnyType p)

pub written-TypeAt : (n : ℕ) → written (surface.TypeAt n) ≡ Written.TypeAt n
written-TypeAt n = ap written (sym (surface.rolls-TypeAt n)) ∙ fold-roll-Surface Written written_step (level.TypeAt n)

pub written-Hole : (p : Place) (n : ℕ) → written (surface.Hole p n) ≡ Written.GoalAt p n
written-Hole p n = ap written (sym (surface.rolls-Hole p n)) ∙ fold-roll-Surface Written written_step (level.Hole p n)

pub written-Bind : (k : Kind) (m : Mark) (ns : List ℕ) (a b : Surface) → written (surface.Bind k m ns a b) ≡ Written.Bind k m ns (written a) (written b)
written-Bind k m ns a b = ap written (sym (surface.rolls-Bind k m ns a b)) ∙ fold-roll-Surface Written written_step (level.Bind k m ns a b)

pub written-Local : (n : ℕ) (a b : Surface) → written (surface.Local n a b) ≡ Written.Local n (written a) (written b)
written-Local n a b = ap written (sym (surface.rolls-Local n a b)) ∙ fold-roll-Surface Written written_step (level.Local n a b)

pub written-Apply : (f : Surface) (xs : List (Mark × Surface)) → written (surface.Apply f xs) ≡ applied (written f) (map written_argument xs)
written-Apply f xs = ap written (sym (surface.rolls-Apply f xs)) ∙ fold-roll-Surface Written written_step (level.Apply f xs)

pub written-Pair : (m n a : Surface) → written (surface.Pair m n a) ≡ Written.Pair (written m) (written n) (written a)
written-Pair m n a = ap written (sym (surface.rolls-Pair m n a)) ∙ fold-roll-Surface Written written_step (level.Pair m n a)

pub written-Project : (m : Surface) (parts : List Part) → written (surface.Project m parts) ≡ projected (written m) parts
written-Project m parts = ap written (sym (surface.rolls-Project m parts)) ∙ fold-roll-Surface Written written_step (level.Project m parts)

pub nodes-Bind : (k : Kind) (m : Mark) (ns : List ℕ) (a b : Surface) → nodes (surface.Bind k m ns a b) ≡ suc (nodes a + nodes b)
nodes-Bind k m ns a b = ap nodes (sym (surface.rolls-Bind k m ns a b)) ∙ fold-roll-Surface ℕ size_step (level.Bind k m ns a b)

pub nodes-Local : (n : ℕ) (a b : Surface) → nodes (surface.Local n a b) ≡ suc (nodes a + nodes b)
nodes-Local n a b = ap nodes (sym (surface.rolls-Local n a b)) ∙ fold-roll-Surface ℕ size_step (level.Local n a b)

abbrev pub nodes_of_all : List (Mark × Surface) → ℕ
nodes_of_all xs = total (map (λ x. (x.0, nodes x.1)) xs)

pub nodes-Apply : (f : Surface) (xs : List (Mark × Surface)) → nodes (surface.Apply f xs) ≡ suc (nodes f + nodes_of_all xs)
nodes-Apply f xs = ap nodes (sym (surface.rolls-Apply f xs)) ∙ fold-roll-Surface ℕ size_step (level.Apply f xs)

pub nodes-Pair : (m n a : Surface) → nodes (surface.Pair m n a) ≡ suc (nodes m + nodes n + nodes a)
nodes-Pair m n a = ap nodes (sym (surface.rolls-Pair m n a)) ∙ fold-roll-Surface ℕ size_step (level.Pair m n a)

pub nodes-Project : (m : Surface) (parts : List Part) → nodes (surface.Project m parts) ≡ suc (nodes m)
nodes-Project m parts = ap nodes (sym (surface.rolls-Project m parts)) ∙ fold-roll-Surface ℕ size_step (level.Project m parts)

-- an argument has no more nodes than all together
pub argument_within : (xs : List (Mark × Surface)) (i : ℕ) (d : Mark × Surface) → i < length xs → nodes (get_or xs i d).1 ≤ nodes_of_all xs
argument_within [] i d l = omega (arith, l)
argument_within (x ∷ xs) zero d l = omega arith
argument_within (x ∷ xs) (suc i) d l = let le = argument_within xs i d (omega arith) in omega arith
