-- The trees that the parser builds, as plain ones in which a tree of the wrong shape shows.
use Rattle.std.specs.Prelude.{List, [], ◌∷◌, Bool, true, false, if◌then◌else◌, option_map, map}
use Rattle.lego_term.specs.declared.binder.Mark.{Mark}
use Rattle.lego_term.specs.declared.binder.Mark.TheVariants.{Implicit}
use Rattle.lego_grammar.specs.Written.{Written, Named, WrittenProp, AnyType as WrittenType, TypeAt as WrittenAt, GoalAt, Bind as Binds, Local as Locally, Apply as Applies, Pair as Pairs, Project as Projects, WrittenKind, Assumed, Defined, WrittenBinding, WrittenAct}
use Rattle.lego_grammar.specs.Surface.{applied, projected}
use Rattle.lego_grammar.specs.declared.surface.Kind.TheVariants.{Sigma}
use Rattle.lego_grammar.specs.declared.surface.Part.{Part}
use Rattle.lego_grammar.specs.declared.surface.Surface.{Surface}
use Rattle.lego_grammar.specs.declared.surface.Surface.TheOpen.{Surface-F, Name, Prop, AnyType, TypeAt, Hole, Bind, Local, Apply, Pair, Project}
use Rattle.lego_grammar.specs.declared.surface.Surface.TheFolds.{fold-Surface}
use Rattle.lego_grammar.specs.declared.command.BindingKind.{BindingKind}
use Rattle.lego_grammar.specs.declared.command.BindingKind.TheVariants.{Assume, Define}
use Rattle.lego_grammar.specs.declared.command.Binding.{Binding}
use Rattle.lego_grammar.specs.declared.command.Act.{Act}

-- What stands for a tree of the wrong shape: no tokens are read as an implicit Sigma.
abbrev pub misshapen : Written → Written
misshapen w = Binds Sigma Implicit [] w WrittenProp

abbrev pub is_application : Written → Bool
is_application (Applies m f x) = true
is_application _ = false

abbrev pub is_projection : Written → Bool
is_projection (Projects part m) = true
is_projection _ = false

-- a function is no application, and an operand no projection
abbrev pub function_of : Written → Written
function_of f = if is_application f then misshapen f else f

abbrev pub operand_of : Written → Written
operand_of m = if is_projection m then misshapen m else m

-- a function with its arguments, of which there is one
abbrev pub whole_spine : Written → List (Mark × Written) → Written
whole_spine f [] = misshapen f
whole_spine f (x ∷ xs) = applied (function_of f) (x ∷ xs)

-- an operand with its projections, of which there is one
abbrev pub whole_run : Written → List Part → Written
whole_run m [] = misshapen m
whole_run m (part ∷ parts) = projected (operand_of m) (part ∷ parts)

-- the same where there may be none yet
abbrev pub spine_so_far : Written → List (Mark × Written) → Written
spine_so_far f [] = f
spine_so_far f (x ∷ xs) = applied (function_of f) (x ∷ xs)

abbrev pub run_so_far : Written → List Part → Written
run_so_far m [] = m
run_so_far m (part ∷ parts) = projected (operand_of m) (part ∷ parts)

abbrev pub built_step : Surface-F Written → Written
built_step (Name p n) = Named p n
built_step Prop = WrittenProp
built_step (AnyType p) = WrittenType p
built_step (TypeAt n) = WrittenAt n
built_step (Hole p n) = GoalAt p n
built_step (Bind k m ns a b) = Binds k m ns a b
built_step (Local n a b) = Locally n a b
built_step (Apply f xs) = whole_spine f xs
built_step (Pair m n a) = Pairs m n a
built_step (Project m parts) = whole_run m parts

abbrev pub built : Surface → Written
built = fold-Surface Written built_step

abbrev pub built_kind : BindingKind → WrittenKind
built_kind (Assume mark ty) = Assumed mark (built ty)
built_kind (Define body ty) = Defined (built body) (option_map built ty)

abbrev pub built_binding : Binding → WrittenBinding
built_binding b = record { place = b.place; places = b.places; names = b.names; kind = built_kind b.kind }

abbrev pub built_act : Act → WrittenAct
built_act (Act.Bind bindings) = WrittenAct.Bindings (map built_binding bindings)
built_act (Act.Goal name ty) = WrittenAct.Goal name (built ty)
built_act (Act.Intros places names) = WrittenAct.Intros places names
built_act (Act.Refine term) = WrittenAct.Refine (built term)
built_act (Act.Claim ty) = WrittenAct.Claim (built ty)
built_act (Act.Next n) = WrittenAct.Next n
built_act Act.Assumption = WrittenAct.Assumption
built_act (Act.Equiv ty) = WrittenAct.Equiv (built ty)
built_act (Act.Save name) = WrittenAct.Save name
built_act Act.KillRef = WrittenAct.KillRef
built_act (Act.Undo n) = WrittenAct.Undo n
built_act (Act.Forget place name) = WrittenAct.Forget (record { place = place; name = name })
built_act (Act.Discharge place name) = WrittenAct.Discharge (record { place = place; name = name })
built_act Act.Prf = WrittenAct.Prf
built_act Act.Ctxt = WrittenAct.Ctxt
built_act (Act.Hnf term) = WrittenAct.Hnf (built term)
built_act (Act.Normal term) = WrittenAct.Normal (built term)
built_act Act.Explicit = WrittenAct.Explicit
built_act Act.Implicit = WrittenAct.Implicit
built_act (Act.Show term) = WrittenAct.Show (built term)
