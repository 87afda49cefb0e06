-- The lines behind the first line of a refusal: those of a cycle of constraints, and those of tries.
use Rattle.std.specs.Prelude.{ℕ, nat_eq, if◌then◌else◌, List, [], ◌∷◌, ◌++◌, codes, decimal, Option, Some, None}
use Rattle.lego_base.specs.declared.place.Place.{Place}
use Rattle.lego_term.specs.declared.level.Level.{Level}
use Rattle.lego_level.specs.declared.constraint.Constraint.{Constraint}
use Rattle.lego_print.specs.declared.heading.Heading.{Heading}
use Rattle.lego_print.specs.declared.lines.Tried.{Tried}
use Rattle.lego_print.specs.declared.lines.Tried.TheVariants.{Arguments, Hypothesis}
use Rattle.lego_print.specs.Refusals.{place_text, cause_text, refusal_text}

-- a number behind `+`, where it isn't 0
abbrev pub plus_text : ℕ → List ℕ
plus_text n = if nat_eq n 0 then [] else codes "+" ++ decimal n

-- a level of a constraint: its number where it is fixed, else `u`, the variable's number, and what is added to it
abbrev pub bound_text : Option ℕ → ℕ → List ℕ
bound_text None plus = decimal plus
bound_text (Some u) plus = codes "u" ++ decimal u ++ plus_text plus

-- where a constraint comes from
abbrev pub origin_text : Option Place → List ℕ
origin_text None = codes "implied"
origin_text (Some p) = place_text p

-- the line of a constraint of a cycle, with its end
abbrev pub constraint_text : Option Place → Level → Level → List ℕ
constraint_text place low high =
    codes "  " ++ origin_text place ++ codes ": " ++ bound_text low.base low.plus ++ codes " <= " ++ bound_text high.base high.plus ++ codes "\n"

-- the lines of the constraints of a cycle
abbrev pub constraint_lines : List Constraint → List ℕ
constraint_lines [] = []
constraint_lines (c ∷ cs) = constraint_text c.place c.low c.high ++ constraint_lines cs

-- the first line of a refusal with its end, and the lines of its cycle, if it has one
abbrev pub refusal_lines : Place → Heading → List ℕ → List Constraint → List ℕ
refusal_lines p heading details cycle = refusal_text p heading details ++ codes "\n" ++ constraint_lines cycle

-- what was tried: a number of new arguments, or the hypothesis of a name
abbrev pub tried_text : Tried → List ℕ
tried_text (Arguments n) = decimal n
tried_text (Hypothesis name) = name.now

-- the line of a try that was refused, with its end
abbrev pub try_text : Tried → Heading → List ℕ → List ℕ
try_text tried heading details = codes "  " ++ tried_text tried ++ codes ": " ++ cause_text heading details ++ codes "\n"
