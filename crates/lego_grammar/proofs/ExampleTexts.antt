-- Small texts, and what they denote.
use Rattle.std.proofs.Common.{[], ◌∷◌, Some, refl}
use Rattle.std.specs.Prelude.{codes}
use Rattle.lego_term.specs.declared.binder.Mark.TheVariants.{Plain}
use Rattle.lego_lexer.specs.Bytes.{Gap}
use Rattle.lego_lexer.specs.Tokens.{Name, Number, OfWord, OfSymbol, Reads as Lexes}
use Rattle.lego_lexer.specs.declared.token.Word.TheVariants as Word
use Rattle.lego_lexer.specs.declared.token.Symbol.TheVariants as Symbol
use Rattle.lego_grammar.specs.declared.surface.Kind.{Kind}
use Rattle.lego_grammar.specs.Written.{Written, Assumed, Defined, WrittenAct}
use Rattle.lego_grammar.specs.Grammar.{token, NameList, Reads as Parse, ReadsBinding, ReadsBindings, LoneWord, ReadsAct, ReadsCommand}
use Rattle.lego_grammar.specs.Denotes.{IsWrittenAs}
use Rattle.lego_grammar.specs.ReadingExamples.{at, few_names}
use Rattle.lego_grammar.proofs.Lexing.{symbol_here, name_here, number_here}

pub explicit_written : IsWrittenAs few_names (record { place = at 1; bytes = codes "Explicit;" }) (record { place = at 1; act = WrittenAct.Explicit })
explicit_written = record {
  tokens =
      record { lexeme = OfWord Word.Explicit; place = at 1; from = 0; to = 8 }
      ∷ record { lexeme = OfSymbol Symbol.Semicolon; place = at 9; from = 8; to = 9 } ∷ [];
  lexed = record {
    end = record { place = at 10; before = 9 };
    gap = [];
    reads = name_here 69 (codes "xplicit") (OfWord Word.Explicit) 59 (codes "") refl refl refl refl refl
        (symbol_here 59 Symbol.Semicolon (codes "") refl refl refl refl refl
        Lexes.none);
    blank = Gap.none;
  };
  parsed = record {
    nested =
        token 0 (at 1) (OfWord Word.Explicit)
        ∷ token 0 (at 9) (OfSymbol Symbol.Semicolon) ∷ [];
    same = refl;
    reads = ReadsCommand.command (at 9) (ReadsAct.alone LoneWord.explicit);
  };
}

pub prop_written : IsWrittenAs few_names (record { place = at 10; bytes = codes "[A:Prop];" }) (record { place = at 10; act = WrittenAct.Bindings (record { place = at 10; places = at 11 ∷ []; names = 0 ∷ []; kind = Assumed Plain Written.WrittenProp } ∷ []) })
prop_written = record {
  tokens =
      record { lexeme = OfSymbol Symbol.OpenSquare; place = at 10; from = 0; to = 1 }
      ∷ record { lexeme = Name (codes "A"); place = at 11; from = 1; to = 2 }
      ∷ record { lexeme = OfSymbol Symbol.Colon; place = at 12; from = 2; to = 3 }
      ∷ record { lexeme = OfWord Word.Prop; place = at 13; from = 3; to = 7 }
      ∷ record { lexeme = OfSymbol Symbol.CloseSquare; place = at 17; from = 7; to = 8 }
      ∷ record { lexeme = OfSymbol Symbol.Semicolon; place = at 18; from = 8; to = 9 } ∷ [];
  lexed = record {
    end = record { place = at 19; before = 9 };
    gap = [];
    reads = symbol_here 91 Symbol.OpenSquare (codes "A:Prop];") refl refl refl refl refl
        (name_here 65 [] (Name (codes "A")) 58 (codes "Prop];") refl refl refl refl refl
        (symbol_here 58 Symbol.Colon (codes "Prop];") refl refl refl refl refl
        (name_here 80 (codes "rop") (OfWord Word.Prop) 93 (codes ";") refl refl refl refl refl
        (symbol_here 93 Symbol.CloseSquare (codes ";") refl refl refl refl refl
        (symbol_here 59 Symbol.Semicolon (codes "") refl refl refl refl refl
        Lexes.none)))));
    blank = Gap.none;
  };
  parsed = record {
    nested =
        token 0 (at 10) (OfSymbol Symbol.OpenSquare)
        ∷ token 1 (at 11) (Name (codes "A"))
        ∷ token 1 (at 12) (OfSymbol Symbol.Colon)
        ∷ token 1 (at 13) (OfWord Word.Prop)
        ∷ token 0 (at 17) (OfSymbol Symbol.CloseSquare)
        ∷ token 0 (at 18) (OfSymbol Symbol.Semicolon) ∷ [];
    same = refl;
    reads = ReadsCommand.command (at 18) (ReadsAct.bindings (ReadsBindings.one (ReadsBinding.assume (at 10) (at 12) (at 17) (NameList.one refl) (Parse.term_sum (Parse.sum_spine (Parse.spine_post (Parse.post_atom (Parse.prop (at 13)))))))));
  };
}

pub a_written : IsWrittenAs few_names (record { place = at 19; bytes = codes "[a:A];" }) (record { place = at 19; act = WrittenAct.Bindings (record { place = at 19; places = at 20 ∷ []; names = 1 ∷ []; kind = Assumed Plain (Written.Named (at 22) 0) } ∷ []) })
a_written = record {
  tokens =
      record { lexeme = OfSymbol Symbol.OpenSquare; place = at 19; from = 0; to = 1 }
      ∷ record { lexeme = Name (codes "a"); place = at 20; from = 1; to = 2 }
      ∷ record { lexeme = OfSymbol Symbol.Colon; place = at 21; from = 2; to = 3 }
      ∷ record { lexeme = Name (codes "A"); place = at 22; from = 3; to = 4 }
      ∷ record { lexeme = OfSymbol Symbol.CloseSquare; place = at 23; from = 4; to = 5 }
      ∷ record { lexeme = OfSymbol Symbol.Semicolon; place = at 24; from = 5; to = 6 } ∷ [];
  lexed = record {
    end = record { place = at 25; before = 6 };
    gap = [];
    reads = symbol_here 91 Symbol.OpenSquare (codes "a:A];") refl refl refl refl refl
        (name_here 97 [] (Name (codes "a")) 58 (codes "A];") refl refl refl refl refl
        (symbol_here 58 Symbol.Colon (codes "A];") refl refl refl refl refl
        (name_here 65 [] (Name (codes "A")) 93 (codes ";") refl refl refl refl refl
        (symbol_here 93 Symbol.CloseSquare (codes ";") refl refl refl refl refl
        (symbol_here 59 Symbol.Semicolon (codes "") refl refl refl refl refl
        Lexes.none)))));
    blank = Gap.none;
  };
  parsed = record {
    nested =
        token 0 (at 19) (OfSymbol Symbol.OpenSquare)
        ∷ token 1 (at 20) (Name (codes "a"))
        ∷ token 1 (at 21) (OfSymbol Symbol.Colon)
        ∷ token 1 (at 22) (Name (codes "A"))
        ∷ token 0 (at 23) (OfSymbol Symbol.CloseSquare)
        ∷ token 0 (at 24) (OfSymbol Symbol.Semicolon) ∷ [];
    same = refl;
    reads = ReadsCommand.command (at 24) (ReadsAct.bindings (ReadsBindings.one (ReadsBinding.assume (at 19) (at 21) (at 23) (NameList.one refl) (Parse.term_sum (Parse.sum_spine (Parse.spine_post (Parse.post_atom (Parse.name (at 22) refl))))))));
  };
}

pub pair_written : IsWrittenAs few_names (record { place = at 25; bytes = codes "[p=(a,a:A#A):A#A];" }) (record { place = at 25; act = WrittenAct.Bindings (record { place = at 25; places = at 26 ∷ []; names = 2 ∷ []; kind = Defined (Written.Pair (Written.Named (at 29) 1) (Written.Named (at 31) 1) (Written.Bind Kind.Sigma Plain [] (Written.Named (at 33) 0) (Written.Named (at 35) 0))) (Some (Written.Bind Kind.Sigma Plain [] (Written.Named (at 38) 0) (Written.Named (at 40) 0))) } ∷ []) })
pair_written = record {
  tokens =
      record { lexeme = OfSymbol Symbol.OpenSquare; place = at 25; from = 0; to = 1 }
      ∷ record { lexeme = Name (codes "p"); place = at 26; from = 1; to = 2 }
      ∷ record { lexeme = OfSymbol Symbol.Equals; place = at 27; from = 2; to = 3 }
      ∷ record { lexeme = OfSymbol Symbol.OpenParen; place = at 28; from = 3; to = 4 }
      ∷ record { lexeme = Name (codes "a"); place = at 29; from = 4; to = 5 }
      ∷ record { lexeme = OfSymbol Symbol.Comma; place = at 30; from = 5; to = 6 }
      ∷ record { lexeme = Name (codes "a"); place = at 31; from = 6; to = 7 }
      ∷ record { lexeme = OfSymbol Symbol.Colon; place = at 32; from = 7; to = 8 }
      ∷ record { lexeme = Name (codes "A"); place = at 33; from = 8; to = 9 }
      ∷ record { lexeme = OfSymbol Symbol.Hash; place = at 34; from = 9; to = 10 }
      ∷ record { lexeme = Name (codes "A"); place = at 35; from = 10; to = 11 }
      ∷ record { lexeme = OfSymbol Symbol.CloseParen; place = at 36; from = 11; to = 12 }
      ∷ record { lexeme = OfSymbol Symbol.Colon; place = at 37; from = 12; to = 13 }
      ∷ record { lexeme = Name (codes "A"); place = at 38; from = 13; to = 14 }
      ∷ record { lexeme = OfSymbol Symbol.Hash; place = at 39; from = 14; to = 15 }
      ∷ record { lexeme = Name (codes "A"); place = at 40; from = 15; to = 16 }
      ∷ record { lexeme = OfSymbol Symbol.CloseSquare; place = at 41; from = 16; to = 17 }
      ∷ record { lexeme = OfSymbol Symbol.Semicolon; place = at 42; from = 17; to = 18 } ∷ [];
  lexed = record {
    end = record { place = at 43; before = 18 };
    gap = [];
    reads = symbol_here 91 Symbol.OpenSquare (codes "p=(a,a:A#A):A#A];") refl refl refl refl refl
        (name_here 112 [] (Name (codes "p")) 61 (codes "(a,a:A#A):A#A];") refl refl refl refl refl
        (symbol_here 61 Symbol.Equals (codes "(a,a:A#A):A#A];") refl refl refl refl refl
        (symbol_here 40 Symbol.OpenParen (codes "a,a:A#A):A#A];") refl refl refl refl refl
        (name_here 97 [] (Name (codes "a")) 44 (codes "a:A#A):A#A];") refl refl refl refl refl
        (symbol_here 44 Symbol.Comma (codes "a:A#A):A#A];") refl refl refl refl refl
        (name_here 97 [] (Name (codes "a")) 58 (codes "A#A):A#A];") refl refl refl refl refl
        (symbol_here 58 Symbol.Colon (codes "A#A):A#A];") refl refl refl refl refl
        (name_here 65 [] (Name (codes "A")) 35 (codes "A):A#A];") refl refl refl refl refl
        (symbol_here 35 Symbol.Hash (codes "A):A#A];") refl refl refl refl refl
        (name_here 65 [] (Name (codes "A")) 41 (codes ":A#A];") refl refl refl refl refl
        (symbol_here 41 Symbol.CloseParen (codes ":A#A];") refl refl refl refl refl
        (symbol_here 58 Symbol.Colon (codes "A#A];") refl refl refl refl refl
        (name_here 65 [] (Name (codes "A")) 35 (codes "A];") refl refl refl refl refl
        (symbol_here 35 Symbol.Hash (codes "A];") refl refl refl refl refl
        (name_here 65 [] (Name (codes "A")) 93 (codes ";") refl refl refl refl refl
        (symbol_here 93 Symbol.CloseSquare (codes ";") refl refl refl refl refl
        (symbol_here 59 Symbol.Semicolon (codes "") refl refl refl refl refl
        Lexes.none)))))))))))))))));
    blank = Gap.none;
  };
  parsed = record {
    nested =
        token 0 (at 25) (OfSymbol Symbol.OpenSquare)
        ∷ token 1 (at 26) (Name (codes "p"))
        ∷ token 1 (at 27) (OfSymbol Symbol.Equals)
        ∷ token 1 (at 28) (OfSymbol Symbol.OpenParen)
        ∷ token 2 (at 29) (Name (codes "a"))
        ∷ token 2 (at 30) (OfSymbol Symbol.Comma)
        ∷ token 2 (at 31) (Name (codes "a"))
        ∷ token 2 (at 32) (OfSymbol Symbol.Colon)
        ∷ token 2 (at 33) (Name (codes "A"))
        ∷ token 2 (at 34) (OfSymbol Symbol.Hash)
        ∷ token 3 (at 35) (Name (codes "A"))
        ∷ token 1 (at 36) (OfSymbol Symbol.CloseParen)
        ∷ token 1 (at 37) (OfSymbol Symbol.Colon)
        ∷ token 1 (at 38) (Name (codes "A"))
        ∷ token 1 (at 39) (OfSymbol Symbol.Hash)
        ∷ token 2 (at 40) (Name (codes "A"))
        ∷ token 0 (at 41) (OfSymbol Symbol.CloseSquare)
        ∷ token 0 (at 42) (OfSymbol Symbol.Semicolon) ∷ [];
    same = refl;
    reads = ReadsCommand.command (at 42) (ReadsAct.bindings (ReadsBindings.one (ReadsBinding.define_typed (at 25) (at 26) (at 27) (at 37) (at 41) refl (Parse.term_sum (Parse.sum_spine (Parse.spine_post (Parse.post_atom (Parse.pair (at 28) (at 30) (at 32) (at 36) (Parse.term_sum (Parse.sum_spine (Parse.spine_post (Parse.post_atom (Parse.name (at 29) refl))))) (Parse.term_sum (Parse.sum_spine (Parse.spine_post (Parse.post_atom (Parse.name (at 31) refl))))) (Parse.term_sum (Parse.hash_sum (at 34) (Parse.spine_post (Parse.post_atom (Parse.name (at 33) refl))) (Parse.sum_spine (Parse.spine_post (Parse.post_atom (Parse.name (at 35) refl))))))))))) (Parse.term_sum (Parse.hash_sum (at 39) (Parse.spine_post (Parse.post_atom (Parse.name (at 38) refl))) (Parse.sum_spine (Parse.spine_post (Parse.post_atom (Parse.name (at 40) refl)))))))));
  };
}

pub type_written : IsWrittenAs few_names (record { place = at 10; bytes = codes "[A:Type(3)];" }) (record { place = at 10; act = WrittenAct.Bindings (record { place = at 10; places = at 11 ∷ []; names = 0 ∷ []; kind = Assumed Plain (Written.TypeAt 3) } ∷ []) })
type_written = record {
  tokens =
      record { lexeme = OfSymbol Symbol.OpenSquare; place = at 10; from = 0; to = 1 }
      ∷ record { lexeme = Name (codes "A"); place = at 11; from = 1; to = 2 }
      ∷ record { lexeme = OfSymbol Symbol.Colon; place = at 12; from = 2; to = 3 }
      ∷ record { lexeme = OfWord Word.AnyType; place = at 13; from = 3; to = 7 }
      ∷ record { lexeme = OfSymbol Symbol.OpenParen; place = at 17; from = 7; to = 8 }
      ∷ record { lexeme = Number 3; place = at 18; from = 8; to = 9 }
      ∷ record { lexeme = OfSymbol Symbol.CloseParen; place = at 19; from = 9; to = 10 }
      ∷ record { lexeme = OfSymbol Symbol.CloseSquare; place = at 20; from = 10; to = 11 }
      ∷ record { lexeme = OfSymbol Symbol.Semicolon; place = at 21; from = 11; to = 12 } ∷ [];
  lexed = record {
    end = record { place = at 22; before = 12 };
    gap = [];
    reads = symbol_here 91 Symbol.OpenSquare (codes "A:Type(3)];") refl refl refl refl refl
        (name_here 65 [] (Name (codes "A")) 58 (codes "Type(3)];") refl refl refl refl refl
        (symbol_here 58 Symbol.Colon (codes "Type(3)];") refl refl refl refl refl
        (name_here 84 (codes "ype") (OfWord Word.AnyType) 40 (codes "3)];") refl refl refl refl refl
        (symbol_here 40 Symbol.OpenParen (codes "3)];") refl refl refl refl refl
        (number_here 51 [] (Number 3) 41 (codes "];") refl refl refl refl refl
        (symbol_here 41 Symbol.CloseParen (codes "];") refl refl refl refl refl
        (symbol_here 93 Symbol.CloseSquare (codes ";") refl refl refl refl refl
        (symbol_here 59 Symbol.Semicolon (codes "") refl refl refl refl refl
        Lexes.none))))))));
    blank = Gap.none;
  };
  parsed = record {
    nested =
        token 0 (at 10) (OfSymbol Symbol.OpenSquare)
        ∷ token 1 (at 11) (Name (codes "A"))
        ∷ token 1 (at 12) (OfSymbol Symbol.Colon)
        ∷ token 1 (at 13) (OfWord Word.AnyType)
        ∷ token 1 (at 17) (OfSymbol Symbol.OpenParen)
        ∷ token 2 (at 18) (Number 3)
        ∷ token 1 (at 19) (OfSymbol Symbol.CloseParen)
        ∷ token 0 (at 20) (OfSymbol Symbol.CloseSquare)
        ∷ token 0 (at 21) (OfSymbol Symbol.Semicolon) ∷ [];
    same = refl;
    reads = ReadsCommand.command (at 21) (ReadsAct.bindings (ReadsBindings.one (ReadsBinding.assume (at 10) (at 12) (at 20) (NameList.one refl) (Parse.term_sum (Parse.sum_spine (Parse.spine_post (Parse.post_atom (Parse.type_at (at 13) (at 17) (at 18) (at 19)))))))));
  };
}
