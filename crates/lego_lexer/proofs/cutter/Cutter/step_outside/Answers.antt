use Rattle.std.proofs.Common.{◌≡◌, ◌+◌, ◌∷◌, ◌++◌, [], Some, None, not, ap, sym, ◌∙◌, subst, arith, length-append}
use Rattle.lego_lexer.specs.Commands.{command_cut}
use Rattle.lego_lexer.specs.Cutter.{EndsOutside}
use Rattle.lego_lexer.proofs.CutterLemmas.{none_there, blank_passes, token_passes, token_ends, fresh, not_none}
use Rattle.lego_lexer.proofs.cutter.Cutter.step_outside.Goals.{else-is_none-via-then-is_none+else-is_blank, else-is_none-via-else-is_none}
use Rattle.lego_lexer.proofs.cutter.Cutter.step_outside.Goals as goal

pub returns-then-is_blank-clause-stands : goal.returns-then-is_blank-clause-stands
returns-then-is_blank-clause-stands c = λ from bytes s.
    let none : c.args.self.now.start ≡ None = none_there c.args.self.now.start (c.is_none.ensures ∙ ap not c.if-is_none.true) in
    let before : EndsOutside from c.args.self.now.last None c.args.self.now.comment bytes =
    subst (λ start. EndsOutside from c.args.self.now.last start c.args.self.now.comment bytes) none (s.outside c.requires.outside) in
    record {
      fed = omega (arith, s.fed, length-append bytes (c.args.byte ∷ []));
      outside = λ h. subst (λ start. EndsOutside from c.args.byte start c.args.self.now.fed (bytes ++ c.args.byte ∷ [])) (sym none)
          (blank_passes c.args.byte c.args.self.now.fed before (sym c.is_blank.ensures ∙ c.if-is_blank.true));
      inside = λ h. absurd (omega (arith, h, c.requires.outside));
    }

pub returns-then-byte-eq59-clause-stands : goal.returns-then-byte-eq59-clause-stands
returns-then-byte-eq59-clause-stands c = λ from bytes s.
    let e = token_ends c.args.self.now.fed (s.outside c.requires.outside) s.fed in
    let last : c.args.byte ≡ 59 = c.if-byte-eq59.true in
    record {
      gap = e.gap;
      body = e.body;
      begins = rw last e.begins;
      is = c.command.ensures ∙ (ap (λ i. command_cut i (c.args.self.now.fed + 1)) (c.unwrap_or-start.ensures ∙ e.starts) ∙ ap (command_cut _) (ap (λ i. i + 1) s.fed ∙ e.ends));
      stands = record {
        fed = omega (arith, s.fed, length-append bytes (c.args.byte ∷ []));
        outside = λ h. fresh _ c.args.byte c.args.self.now.fed (λ k. absurd (omega (arith, k, last)));
        inside = λ h. absurd (omega (arith, h, c.requires.outside));
      };
    }

pub returns-clause-stands : goal.returns-clause-stands
returns-clause-stands c = λ from bytes s. record {
  fed = omega (arith, s.fed, length-append bytes (c.args.byte ∷ []));
  outside = λ h.
      subst (λ start. EndsOutside from c.args.byte (Some start) c.args.self.now.fed (bytes ++ c.args.byte ∷ [])) (sym c.unwrap_or-start.ensures)
      (token_passes c.args.byte c.args.self.now.fed (s.outside c.requires.outside) c.if-byte-eq59.false
      (λ none. elim c.else-is_none.branch [
        | else-is_none-via-then-is_none+else-is_blank w ↦ sym w.is_blank.ensures ∙ w.if-is_blank.false
        | else-is_none-via-else-is_none w ↦ absurd (not_none c.args.self.now.start none (c.is_none.ensures ∙ ap not w.if-is_none.false))
      ]) c.requires.apart s.fed);
  inside = λ h. absurd (omega (arith, h, c.requires.outside));
}
