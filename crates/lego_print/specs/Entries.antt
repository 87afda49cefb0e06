-- The texts of entries.
use Rattle.std.specs.Prelude.{ℕ, List, map, [], ◌++◌, codes, Option, Some, None, option_map, unwrap_or}
use Rattle.lego_term.specs.Trees.{Core}
use Rattle.lego_term.specs.declared.binder.Mark.{Mark}
use Rattle.lego_term.specs.declared.binder.Mark.TheVariants.{Plain, Implicit}
use Rattle.lego_laws.specs.Entries.{Entry}
use Rattle.lego_print.specs.declared.shown.Shown.{Shown}
use Rattle.lego_print.specs.declared.item.Item.{Item}
use Rattle.lego_print.specs.Names.{Scope, name_text}
use Rattle.lego_print.specs.Texts.{term_text}

-- the entry of an item: a named assumption, or a definition, where there is a body
abbrev pub item_entry : Item → Entry
item_entry i =
    record {
      number = i.number;
      name = Some i.name;
      mark = i.mark;
      ty = i.ty.now;
      body = option_map (λ m. m.now) i.body;
      hypotheses = 0;
      constraints = [];
    }

abbrev pub item_entries : List Item → List Entry
item_entries is = map item_entry is

abbrev pub entry_name : Scope → Entry → List ℕ
entry_name scope e = unwrap_or (option_map (name_text scope.names) e.name) []

-- what a line says behind the name: ` : T`, or ` | T` of an implicit assumption, or ` = M : T`
abbrev pub said : Shown → Scope → Option Core → Mark → Core → List ℕ
said levels scope None Plain ty = codes " : " ++ term_text levels scope 0 ty
said levels scope None Implicit ty = codes " | " ++ term_text levels scope 0 ty
said levels scope (Some m) mark ty = codes " = " ++ term_text levels scope 0 m ++ codes " : " ++ term_text levels scope 0 ty

abbrev pub entry_text : Shown → Scope → Entry → List ℕ
entry_text levels scope e = entry_name scope e ++ said levels scope e.body e.mark e.ty

-- what a command says behind the name: `:T`, or `|T`, or `=M:T`
abbrev pub declared : Shown → Scope → Option Core → Mark → Core → List ℕ
declared levels scope None Plain ty = codes ":" ++ term_text levels scope 0 ty
declared levels scope None Implicit ty = codes "|" ++ term_text levels scope 0 ty
declared levels scope (Some m) mark ty = codes "=" ++ term_text levels scope 0 m ++ codes ":" ++ term_text levels scope 0 ty

-- the command that declares an entry, and a line end
abbrev pub entry_command : Shown → Scope → Entry → List ℕ
entry_command levels scope e = codes "[" ++ entry_name scope e ++ declared levels scope e.body e.mark e.ty ++ codes "];\n"
