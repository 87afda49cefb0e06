-- What the parser's stack and its modes stand for.
use Rattle.std.specs.Prelude.{◌≡◌, List, map, reverse}
use Rattle.lego_term.specs.declared.binder.Mark.{Mark}
use Rattle.lego_grammar.specs.declared.surface.Surface.{Surface}
use Rattle.lego_grammar.specs.Written.{Written, Apply}
use Rattle.lego_grammar.specs.Surface.{applied, projected}
use Rattle.lego_parser.specs.private.Trees.{function_of, operand_of, whole_spine, spine_so_far, run_so_far, built, built_binding, built_act}
use Rattle.lego_grammar.specs.private.Machine as M
use Rattle.lego_parser.specs.declared.modes.Site.{Site}
use Rattle.lego_parser.specs.declared.modes.Use.{Use}
use Rattle.lego_parser.specs.declared.modes.Frame.{Frame}
use Rattle.lego_parser.specs.declared.modes.Post.{Post}
use Rattle.lego_parser.specs.declared.modes.Spine.{Spine}
use Rattle.lego_parser.specs.declared.modes.Mode.{Mode}

abbrev pub site_of : Site → M.Site
site_of (Site.Term k) = M.InTerm k
site_of (Site.Context c) = M.InContext c.place (map built_binding c.bindings.items)

abbrev pub use_of : Use → M.Use
use_of Use.Show = M.ToShow
use_of Use.Refine = M.ToRefine
use_of Use.Claim = M.ToClaim
use_of Use.Equiv = M.ToEquiv
use_of Use.Head = M.ToHead
use_of Use.Normal = M.ToNormal
use_of (Use.Goal name) = M.ToGoal name

abbrev pub arguments_of : List (Mark × Surface) → List (Mark × Written)
arguments_of xs = map (λ x. (x.0, built x.1)) xs

-- a function with these arguments so far, applied to one more
abbrev pub one_more_argument : Mark → Surface → List (Mark × Surface) → Surface → Written
one_more_argument mark function arguments argument = Apply mark (spine_so_far (built function) (arguments_of arguments)) (built argument)

-- a function with its arguments, of which there may be none
abbrev pub spine_term : Spine → Written
spine_term s = applied (function_of (built s.function)) (arguments_of s.arguments.items)

-- the spine has an argument, and is this term
abbrev pub IsSpineOf : Spine → Written → Type 0
IsSpineOf s term =
    (whole_spine (built s.function) (arguments_of s.arguments.items) ≡ term) × (spine_so_far (built s.function) (arguments_of s.arguments.items) ≡ term)

-- an operand with its projections, of which there may be none
abbrev pub run_term : Post → Written
run_term v = projected (operand_of (built v.of)) v.parts.items

abbrev pub frame_of : Frame → M.Frame
frame_of (Frame.Apply mark function arguments) = M.ApplyTo mark (spine_so_far (built function) (arguments_of arguments.items))
frame_of (Frame.Hash a) = M.HashFrom (built a)
frame_of (Frame.Arrow a) = M.ArrowFrom (built a)
frame_of (Frame.Body k m ns a) = M.BodyOf k m ns.items (built a)
frame_of (Frame.Local n a) = M.BodyWith n (built a)
frame_of Frame.Parens = M.Parens
frame_of (Frame.Second m) = M.SecondOf (built m)
frame_of (Frame.Type m n) = M.TypeOf (built m) (built n)
frame_of (Frame.Domain site m ns) = M.DomainOf (site_of site) m ns.places.items ns.names.items
frame_of (Frame.Value site n) = M.ValueOf (site_of site) n.place n.name
frame_of (Frame.Stated c n m) = M.StatedFor c.place (map built_binding c.bindings.items) n.place n.name (built m)
frame_of (Frame.Whole u) = M.Whole (use_of u)

-- the newest first
abbrev pub frames_of : List Frame → List M.Frame
frames_of fs = reverse (map frame_of fs)

abbrev pub post_of : Post → Written
post_of v = run_so_far (built v.of) v.parts.items

abbrev pub mode_of : Mode → M.Mode
mode_of Mode.Start = M.Start
mode_of Mode.Want = M.Want
mode_of (Mode.WantLevel v) = M.WantLevel (built v)
mode_of (Mode.CloseLevel n) = M.CloseLevel n
mode_of (Mode.Behind l v) = M.Behind l (post_of v)
mode_of (Mode.WantPart v) = M.WantPart (post_of v)
mode_of (Mode.WantGoal p) = M.WantGoal p
mode_of (Mode.WantName site ns) = M.WantName (site_of site) ns.places.items ns.names.items
mode_of (Mode.BehindName site ns) = M.BehindName (site_of site) ns.places.items ns.names.items
mode_of (Mode.Between bs) = M.Between (map built_binding bs.items)
mode_of Mode.BehindGoal = M.BehindGoal
mode_of (Mode.BehindGoalName n) = M.BehindGoalName n.place n.name
mode_of (Mode.WantIntros ns) = M.WantIntros ns.places.items ns.names.items
mode_of Mode.WantNext = M.WantNext
mode_of Mode.WantUndo = M.WantUndo
mode_of Mode.WantForget = M.WantForget
mode_of Mode.WantDischarge = M.WantDischarge
mode_of Mode.BehindSave = M.BehindSave
mode_of (Mode.WantEnd act) = M.WantEnd (built_act act)
mode_of (Mode.Done act) = M.Done (built_act act)
