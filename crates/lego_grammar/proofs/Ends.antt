-- A command ends with its only `;`, so no whole command is the front of a longer one.
use Rattle.std.proofs.Common.{◌≡◌, ℕ, List, [], ◌∷◌, ◌++◌, Bool, false, map, refl, sym, ap, ◌∙◌}
use Rattle.lego_term.specs.declared.binder.Mark.TheVariants.{Plain, Implicit}
use Rattle.lego_lexer.specs.Tokens.{OfSymbol}
use Rattle.lego_lexer.specs.declared.token.Symbol.TheVariants.{Semicolon}
use Rattle.lego_grammar.specs.declared.surface.Kind.TheVariants.{Lambda, Pi, Sigma}
use Rattle.lego_grammar.specs.Written.{WrittenAct, WrittenCommand}
use Rattle.lego_grammar.specs.Grammar.{Names, Nested, Item, item, ReadsCommand}
use Rattle.lego_grammar.specs.private.Machine.{Frame, Mode, Done}
use Rattle.lego_grammar.specs.private.Runs.{start_of}
use Rattle.lego_grammar.proofs.Transitions.{Closes, Operand, Move, WaitingWord, Runs}
use Rattle.lego_grammar.proofs.Complete.{complete_command}

module _ (b : Bool) where
  operand_no_end : {fs gs : List Frame} {n : ℕ} {t : Nested} {m : Mode} → Operand b fs t n m gs → t.lexeme ≡ OfSymbol Semicolon → ⊥
  operand_no_end (Operand.binder Lambda) e = cc
  operand_no_end (Operand.binder Pi) e = cc
  operand_no_end (Operand.binder Sigma) e = cc
  operand_no_end _ e = cc

  end_closes : {f : Frame} {v : _} {fs gs : List Frame} {t : Nested} {m : Mode} → Closes b f v fs t m gs → t.lexeme ≡ OfSymbol Semicolon → (d : WrittenAct) × (m ≡ Done d)
  end_closes (Closes.domain {k = Lambda}) e = cc
  end_closes (Closes.domain {k = Pi}) e = cc
  end_closes (Closes.domain {k = Sigma}) e = cc
  end_closes Closes.whole e = (_, refl)
  end_closes _ e = cc

  -- a `;` ends the command
  behind_end : {m m' : Mode} {fs gs : List Frame} {n : ℕ} {t : Nested} → Move b m fs t n m' gs → t.lexeme ≡ OfSymbol Semicolon → (d : WrittenAct) × (m' ≡ Done d)
  behind_end (Move.want o) e = absurd (operand_no_end o e)
  behind_end (Move.level_operand o) e = absurd (operand_no_end o e)
  behind_end (Move.apply a o) e = absurd (operand_no_end o e)
  behind_end (Move.show o) e = absurd (operand_no_end o e)
  behind_end (Move.goal_term a o) e = absurd (operand_no_end o e)
  behind_end (Move.close c x) e = end_closes x e
  behind_end (Move.goal_behind x) e = behind_end x e
  behind_end (Move.signed {mark = Plain} a) e = cc
  behind_end (Move.signed {mark = Implicit} a) e = cc
  behind_end Move.context e = (_, refl)
  behind_end Move.intros_end e = (_, refl)
  behind_end Move.save e = (_, refl)
  behind_end Move.end e = (_, refl)
  behind_end _ e = cc

  operand_goes_on : {fs gs : List Frame} {n : ℕ} {t : Nested} {m : Mode} {d : WrittenAct} → Operand b fs t n m gs → m ≡ Done d → ⊥
  operand_goes_on (Operand.binder k) e = cc
  operand_goes_on _ e = cc

  closes_by_end : {f : Frame} {v : _} {fs gs : List Frame} {t : Nested} {m : Mode} {d : WrittenAct} → Closes b f v fs t m gs → m ≡ Done d → t.lexeme ≡ OfSymbol Semicolon
  closes_by_end Closes.whole e = refl
  closes_by_end _ e = cc

  waiting_goes_on : {w : _} {m : Mode} {d : WrittenAct} → WaitingWord w m → m ≡ Done d → ⊥
  waiting_goes_on WaitingWord.goal e = cc
  waiting_goes_on _ e = cc

  -- only a `;` ends it
  ends_by : {m m' : Mode} {fs gs : List Frame} {n : ℕ} {t : Nested} {d : WrittenAct} → Move b m fs t n m' gs → m' ≡ Done d → t.lexeme ≡ OfSymbol Semicolon
  ends_by (Move.want o) e = absurd (operand_goes_on o e)
  ends_by (Move.level_operand o) e = absurd (operand_goes_on o e)
  ends_by (Move.apply a o) e = absurd (operand_goes_on o e)
  ends_by (Move.show o) e = absurd (operand_goes_on o e)
  ends_by (Move.goal_term a o) e = absurd (operand_goes_on o e)
  ends_by (Move.close c x) e = closes_by_end x e
  ends_by (Move.goal_behind x) e = ends_by x e
  ends_by (Move.waiting_word w) e = absurd (waiting_goes_on w e)
  ends_by Move.context e = refl
  ends_by Move.intros_end e = refl
  ends_by Move.save e = refl
  ends_by Move.end e = refl
  ends_by _ e = cc

  -- nothing moves a command that has ended
  no_move : {m m' : Mode} {fs gs : List Frame} {t : Nested} {n : ℕ} {d : WrittenAct} → Move b m fs t n m' gs → m ≡ Done d → ⊥
  no_move (Move.want o) e = cc
  no_move (Move.level_operand o) e = cc
  no_move (Move.apply a o) e = cc
  no_move (Move.close c x) e = cc
  no_move (Move.show o) e = cc
  no_move (Move.goal_term a o) e = cc
  no_move (Move.goal_behind x) e = cc
  no_move _ e = cc

  no_run : {names : Names} {m m' : Mode} {fs gs : List Frame} {t : Nested} {ts : List Nested} {d : WrittenAct} → Runs names b m fs (t ∷ ts) m' gs → m ≡ Done d → ⊥
  no_run (Runs.go f x r) e = no_move x e

  item_tail : {x y : Item} {xs ys : List Item} → ◌≡◌ {A = List Item} (x ∷ xs) (y ∷ ys) → xs ≡ ys
  item_tail e = ap (λ l. tail l) e
    where
      tail : List Item → List Item
      tail [] = []
      tail (z ∷ zs) = zs

  item_head : {x y : Item} {xs ys : List Item} → ◌≡◌ {A = List Item} (x ∷ xs) (y ∷ ys) → x ≡ y
  item_head {x} e = ap (λ l. head l) e
    where
      head : List Item → Item
      head [] = x
      head (z ∷ zs) = z

  same_lexeme : (t u : Nested) {xs ys : List Item} → ◌≡◌ {A = List Item} (item t ∷ xs) (item u ∷ ys) → t.lexeme ≡ u.lexeme
  same_lexeme t u e = ap (λ (i : Item). i.lexeme) (item_head e)

  -- a run to the end has no more tokens than a run over the same tokens and one more
  run_ends : {names names' : Names} {m m1 m2 : Mode} {fs gs f1 f2 : List Frame} {d : WrittenAct} (xs ys : List Nested) (t : Nested) (more : List Nested)
      → Runs names b m fs xs (Done d) gs → ((act : WrittenAct) → m ≡ Done act → ⊥) → Runs names' b m1 f1 (ys ++ t ∷ more) m2 f2 → map item xs ≡ map item ys → ⊥
  run_ends {d = d} xs ys t more Runs.stay on q e = on d refl
  run_ends (x ∷ xs) [] t more (Runs.go f y r) on q e = cc
  run_ends (x ∷ []) (u ∷ []) t more (Runs.go f y Runs.stay) on (Runs.go g z q) e = no_run q (behind_end z (sym (same_lexeme x u e) ∙ ends_by y refl)).1
  run_ends (x ∷ []) (u ∷ v ∷ ys) t more (Runs.go f y Runs.stay) on (Runs.go g z q) e = absurd (nonempty (item_tail e))
    where
      nonempty : {i : Item} {is : List Item} → ◌≡◌ {A = List Item} [] (i ∷ is) → ⊥
      nonempty e = cc
  run_ends (x ∷ w ∷ xs) (u ∷ ys) t more (Runs.go f y (Runs.go h k r)) on (Runs.go g z q) e =
      run_ends (w ∷ xs) ys t more (Runs.go h k r) (λ act same. no_move k same) q (item_tail e)

-- a command begins before its end
begins_on : (act d : WrittenAct) → start_of act ≡ Done d → ⊥
begins_on (WrittenAct.Bindings bs) d e = cc
begins_on _ d e = cc

-- the tokens of a command are not those of a longer one up to some token
pub no_longer : (names names' : Names) {c c' : WrittenCommand} (ts us : List Nested) (t : Nested) (more : List Nested)
    → ReadsCommand names ts c → ReadsCommand names' (us ++ t ∷ more) c' → map item ts ≡ map item us → ⊥
no_longer names names' {c} ts us t more r q e = run_ends false ts us t more (complete_command names false r) (begins_on c.act) (complete_command names' false q) e
