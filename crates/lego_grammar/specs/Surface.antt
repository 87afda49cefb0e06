-- The plain tree of a written term, in which each argument and each projection is a node of its own.
use Rattle.std.specs.Prelude.{List, [], ◌∷◌, option_map, map}
use Rattle.lego_term.specs.declared.binder.Mark.{Mark}
use Rattle.lego_grammar.specs.Written.{Written, Named, WrittenProp, AnyType as WrittenType, TypeAt as WrittenAt, GoalAt, Bind as Binds, Local as Locally, Apply as Applies, Pair as Pairs, Project as Projects, WrittenKind, Assumed, Defined, WrittenBinding, WrittenAct, WrittenCommand}
use Rattle.lego_grammar.specs.declared.surface.Part.{Part}
use Rattle.lego_grammar.specs.declared.surface.Surface.{Surface}
use Rattle.lego_grammar.specs.declared.surface.Surface.TheOpen.{Surface-F, Name, Prop, AnyType, TypeAt, Hole, Bind, Local, Apply, Pair, Project}
use Rattle.lego_grammar.specs.declared.surface.Surface.TheFolds.{fold-Surface}
use Rattle.lego_grammar.specs.declared.command.BindingKind.{BindingKind}
use Rattle.lego_grammar.specs.declared.command.BindingKind.TheVariants.{Assume, Define}
use Rattle.lego_grammar.specs.declared.command.Binding.{Binding}
use Rattle.lego_grammar.specs.declared.command.Command.{Command}
use Rattle.lego_grammar.specs.declared.command.Act.{Act}

-- the function applied to its arguments, one after the other
abbrev pub applied : Written → List (Mark × Written) → Written
applied f [] = f
applied f (x ∷ xs) = applied (Applies x.0 f x.1) xs

-- the projections, the innermost first
abbrev pub projected : Written → List Part → Written
projected m [] = m
projected m (part ∷ parts) = projected (Projects part m) parts

-- one level, with the tree of each part in its place
abbrev pub written_step : Surface-F Written → Written
written_step (Name p n) = Named p n
written_step Prop = WrittenProp
written_step (AnyType p) = WrittenType p
written_step (TypeAt n) = WrittenAt n
written_step (Hole p n) = GoalAt p n
written_step (Bind k m ns a b) = Binds k m ns a b
written_step (Local n a b) = Locally n a b
written_step (Apply f xs) = applied f xs
written_step (Pair m n a) = Pairs m n a
written_step (Project m parts) = projected m parts

abbrev pub written : Surface → Written
written = fold-Surface Written written_step

abbrev pub written_kind : BindingKind → WrittenKind
written_kind (Assume mark ty) = Assumed mark (written ty)
written_kind (Define body ty) = Defined (written body) (option_map written ty)

abbrev pub written_binding : Binding → WrittenBinding
written_binding b = record { place = b.place; places = b.places; names = b.names; kind = written_kind b.kind }

abbrev pub written_act : Act → WrittenAct
written_act (Act.Bind bindings) = WrittenAct.Bindings (map written_binding bindings)
written_act (Act.Goal name ty) = WrittenAct.Goal name (written ty)
written_act (Act.Intros places names) = WrittenAct.Intros places names
written_act (Act.Refine term) = WrittenAct.Refine (written term)
written_act (Act.Claim ty) = WrittenAct.Claim (written ty)
written_act (Act.Next n) = WrittenAct.Next n
written_act Act.Assumption = WrittenAct.Assumption
written_act (Act.Equiv ty) = WrittenAct.Equiv (written ty)
written_act (Act.Save name) = WrittenAct.Save name
written_act Act.KillRef = WrittenAct.KillRef
written_act (Act.Undo n) = WrittenAct.Undo n
written_act (Act.Forget place name) = WrittenAct.Forget (record { place = place; name = name })
written_act (Act.Discharge place name) = WrittenAct.Discharge (record { place = place; name = name })
written_act Act.Prf = WrittenAct.Prf
written_act Act.Ctxt = WrittenAct.Ctxt
written_act (Act.Hnf term) = WrittenAct.Hnf (written term)
written_act (Act.Normal term) = WrittenAct.Normal (written term)
written_act Act.Explicit = WrittenAct.Explicit
written_act Act.Implicit = WrittenAct.Implicit
written_act (Act.Show term) = WrittenAct.Show (written term)

-- the command as the grammar speaks of it
abbrev pub written_command : Command → WrittenCommand
written_command c = record { place = c.place; act = written_act c.act }
