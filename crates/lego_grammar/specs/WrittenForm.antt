-- What the trees of the code may be: commands that stand for tokens within the limits.
use Rattle.std.specs.Prelude.{◌≡◌, ℕ, suc, ◌≤◌, List, [], ◌∷◌, Bool, true, false, ◌&&◌, not, if◌then◌else◌, Some, None, map, All}
use Rattle.lego_term.specs.declared.binder.Mark.{Mark}
use Rattle.lego_grammar.specs.declared.surface.Surface.{Surface}
use Rattle.lego_grammar.specs.declared.surface.Surface.TheOpen.{Surface-F, Name as NameForm, Prop, AnyType, TypeAt, Hole, Bind, Local, Apply, Pair, Project}
use Rattle.lego_grammar.specs.declared.surface.Surface.TheFolds.{fold-Surface}
use Rattle.lego_grammar.specs.declared.command.Act.{Act}
use Rattle.lego_grammar.specs.declared.command.Binding.{Binding}
use Rattle.lego_grammar.specs.declared.command.BindingKind.{BindingKind}
use Rattle.lego_grammar.specs.declared.command.BindingKind.TheVariants.{Assume, Define}
use Rattle.lego_lexer.specs.Tokens.{Lexeme, Name, Number, OfWord, OfSymbol}
use Rattle.lego_grammar.specs.Grammar.{Names, Nested, Item, item, ReadsCommand}
use Rattle.lego_grammar.specs.Surface.{written_command}
use Rattle.lego_grammar.specs.declared.command.Command.{Command}

-- how many levels may be around a token, which numeral may be an explicit level, and how many names may be written
abbrev pub max_nesting : ℕ
max_nesting = 500

abbrev pub max_numeral : ℕ
max_numeral = 1000000

abbrev pub max_written_names : ℕ
max_written_names = 32768

abbrev pub is_name : Lexeme → Bool
is_name (Name text) = true
is_name _ = false

-- how many of the tokens are names
abbrev pub count_names : List Item → ℕ
count_names [] = 0
count_names (t ∷ tokens) = if is_name t.lexeme then suc (count_names tokens) else count_names tokens

-- a numeral within the limit, or another token
abbrev pub IsSmall : Lexeme → Type 0
IsSmall (Name text) = Unit {0}
IsSmall (Number n) = n ≤ max_numeral
IsSmall (OfWord w) = Unit {0}
IsSmall (OfSymbol s) = Unit {0}

-- how a written term is built: whether it and its parts are of the right shape, and whether it is an application or a run of projections
pub record Shape : Type 0 where
  pub right : Bool
  pub application : Bool
  pub projection : Bool

abbrev pub leaf : Shape
leaf = record { right = true; application = false; projection = false }

abbrev pub node : Bool → Shape
node right = record { right = right; application = false; projection = false }

abbrev pub is_some : {A : Type 0} → List A → Bool
is_some [] = false
is_some (x ∷ xs) = true

abbrev pub all_right : List (Mark × Shape) → Bool
all_right [] = true
all_right (x ∷ xs) = x.1.right && all_right xs

-- An application has an argument, and its function is no application; a run has a projection, and its operand is none.
abbrev pub shape_step : Surface-F Shape → Shape
shape_step (NameForm p n) = leaf
shape_step Prop = leaf
shape_step (AnyType p) = leaf
shape_step (TypeAt n) = leaf
shape_step (Hole p n) = leaf
shape_step (Bind k m ns a b) = node (a.right && b.right)
shape_step (Local n a b) = node (a.right && b.right)
shape_step (Apply f xs) = record { right = f.right && (not f.application && (is_some xs && all_right xs)); application = true; projection = false }
shape_step (Pair m n a) = node (m.right && (n.right && a.right))
shape_step (Project m parts) = record { right = m.right && (not m.projection && is_some parts); application = false; projection = true }

abbrev pub shape : Surface → Shape
shape = fold-Surface Shape shape_step

abbrev pub HasRightShape : Surface → Type 0
HasRightShape s = (shape s).right ≡ true

-- the same of all terms of a command
abbrev pub is_kind_right : BindingKind → Bool
is_kind_right (Assume mark ty) = (shape ty).right
is_kind_right (Define body None) = (shape body).right
is_kind_right (Define body (Some ty)) = (shape body).right && (shape ty).right

abbrev pub are_right : List Binding → Bool
are_right [] = true
are_right (b ∷ bs) = is_kind_right b.kind && are_right bs

abbrev pub is_right : Act → Bool
is_right (Act.Bind bindings) = are_right bindings
is_right (Act.Goal name ty) = (shape ty).right
is_right (Act.Refine term) = (shape term).right
is_right (Act.Claim ty) = (shape ty).right
is_right (Act.Equiv ty) = (shape ty).right
is_right (Act.Hnf term) = (shape term).right
is_right (Act.Normal term) = (shape term).right
is_right (Act.Show term) = (shape term).right
is_right _ = true

-- The command stands for tokens, by the grammar: none has more than 500 levels around it, no numeral is above 1,000,000,
-- at most 32,768 of them
-- are names; and its terms have the right shape.
pub record IsWrittenForm (command : Command) : Type 0 where
  pub names : Names
  pub tokens : List Nested
  pub reads : ReadsCommand names tokens (written_command command)
  pub shallow : All (λ t. t.nesting ≤ max_nesting) tokens
  pub small : All (λ t. IsSmall t.lexeme) (map item tokens)
  pub few : count_names (map item tokens) ≤ max_written_names
  pub shaped : is_right command.act ≡ true
