-- The forms of commands that are built.
use Rattle.std.specs.Prelude.{Bool, true, false, ◌&&◌, Some, None}
use Rattle.std.specs.List.{list_all}
use Rattle.lego_term.specs.declared.binder.Mark.{Mark}
use Rattle.lego_term.specs.declared.binder.Mark.TheVariants.{Plain, Implicit}
use Rattle.lego_grammar.specs.Written.{Written, Bind, Local, Apply, Pair, Project, WrittenKind, Assumed, Defined, WrittenAct, Bindings, Hnf, Normal, Show, Undo, Forget, Ctxt}

abbrev pub is_plain : Mark → Bool
is_plain Plain = true
is_plain Implicit = false

-- no binder and no application of the written term has the implicit mark
abbrev pub has_plain_marks : Written → Bool
has_plain_marks (Bind kind mark names s t) = is_plain mark && (has_plain_marks s && has_plain_marks t)
has_plain_marks (Local n s t) = has_plain_marks s && has_plain_marks t
has_plain_marks (Apply mark s t) = is_plain mark && (has_plain_marks s && has_plain_marks t)
has_plain_marks (Pair m n t) = has_plain_marks m && (has_plain_marks n && has_plain_marks t)
has_plain_marks (Project part s) = has_plain_marks s
has_plain_marks _ = true

-- nor has the binding
abbrev pub is_plain_kind : WrittenKind → Bool
is_plain_kind (Assumed mark t) = is_plain mark && has_plain_marks t
is_plain_kind (Defined m None) = has_plain_marks m
is_plain_kind (Defined m (Some t)) = has_plain_marks m && has_plain_marks t

-- the forms that are built; a command of any other form is refused at its first token
abbrev pub is_built : WrittenAct → Bool
is_built (Bindings bs) = list_all (λ b. is_plain_kind b.kind) bs
is_built (Hnf m) = has_plain_marks m
is_built (Normal m) = has_plain_marks m
is_built (Show m) = has_plain_marks m
is_built (Undo n) = true
is_built (Forget x) = true
is_built Ctxt = true
is_built _ = false
