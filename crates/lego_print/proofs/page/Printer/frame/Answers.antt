use Rattle.std.proofs.Common.{◌≡◌, ◌+◌, true, false, sym, ap, below_more, ◌∙◌, arith}
use Rattle.std.specs.List.{list_any}
use Rattle.lego_print.specs.Names.{is_free, is_printed_as, numbered, wished_name, names_in_use}
use Rattle.lego_print.specs.private.Numbered.{scope_of}
use Rattle.lego_print.proofs.NamesLemmas.{first_free_is, free_no_local, in_use}
use Rattle.lego_print.proofs.Pigeonhole.{last_is_free}
use Rattle.lego_print.proofs.page.Printer.frame.Goals as goal

pub returns-then-is_free-clause-text : goal.returns-then-is_free-clause-text
returns-then-is_free-clause-text g c =
    let scope = scope_of c.args.self.now.names.now (g.E.Entries.called c.args.self.now.entries.now) (g.E.Entries.in_scope c.args.self.now.entries.now) c.args.page.now.locals in
    let wished = wished_name c.args.self.now.names.now c.args.name in
    let used = in_use c.args.self.now.names.now (g.E.Entries.called c.args.self.now.entries.now) (g.E.Entries.in_scope c.args.self.now.entries.now) c.args.page.now.locals in
    let text : c.in_ok-text.text.items ≡ numbered wished c.loop-number.number = c.in_ok-text.ensures ∙ ap (λ w. numbered w c.loop-number.number) c.wished-wished.ensures in
    let free : is_free scope (numbered wished c.loop-number.number) ≡ true =
    ap (is_free scope) (sym text ∙ sym c.as_slice.ensures.value) ∙ cc (c.if-is_free.ensures) in
    text ∙ ap (numbered wished) (sym (first_free_is scope wished c.loop-number.number (omega (arith, used, c.count.ensures, c.from.ensures, c.len.ensures, c.from-2.ensures, c.loop-number-test.true)) c.loop-number.invariant (λ _. free)))

pub loop-number-preserved : goal.loop-number-preserved
loop-number-preserved g c =
    let scope = scope_of c.args.self.now.names.now (g.E.Entries.called c.args.self.now.entries.now) (g.E.Entries.in_scope c.args.self.now.entries.now) c.args.page.now.locals in
    let wished = wished_name c.args.self.now.names.now c.args.name in
    let text : c.in_ok-text.text.items ≡ numbered wished c.loop-number.number = c.in_ok-text.ensures ∙ ap (λ w. numbered w c.loop-number.number) c.wished-wished.ensures in
    let taken : is_free scope (numbered wished c.loop-number.number) ≡ false =
    ap (is_free scope) (sym text ∙ sym c.as_slice.ensures.value) ∙ cc (c.if-is_free.ensures) in
    below_more _ _ c.loop-number.invariant taken

pub returns-clause-text : goal.returns-clause-text
returns-clause-text g c =
    let scope = scope_of c.args.self.now.names.now (g.E.Entries.called c.args.self.now.entries.now) (g.E.Entries.in_scope c.args.self.now.entries.now) c.args.page.now.locals in
    let wished = wished_name c.args.self.now.names.now c.args.name in
    let used = in_use c.args.self.now.names.now (g.E.Entries.called c.args.self.now.entries.now) (g.E.Entries.in_scope c.args.self.now.entries.now) c.args.page.now.locals in
    let n = c.from.result + c.from-2.result in
    let all : n ≡ names_in_use scope = omega (arith, used, c.count.ensures, c.from.ensures, c.len.ensures, c.from-2.ensures) in
    c.in_ok-text-2.ensures ∙ ap (λ w. numbered w n) c.wished-wished.ensures
    ∙ ap (numbered wished) (sym (first_free_is scope wished n (omega arith)
    (λ m l. c.loop-number.invariant m (omega (arith, c.loop-number-test.false))) (λ l. absurd (omega arith))))

pub returns-clause-free : goal.returns-clause-free
returns-clause-free g c =
    let scope = scope_of c.args.self.now.names.now (g.E.Entries.called c.args.self.now.entries.now) (g.E.Entries.in_scope c.args.self.now.entries.now) c.args.page.now.locals in
    let wished = wished_name c.args.self.now.names.now c.args.name in
    let used = in_use c.args.self.now.names.now (g.E.Entries.called c.args.self.now.entries.now) (g.E.Entries.in_scope c.args.self.now.entries.now) c.args.page.now.locals in
    let n = c.from.result + c.from-2.result in
    let all : n ≡ names_in_use scope = omega (arith, used, c.count.ensures, c.from.ensures, c.len.ensures, c.from-2.ensures) in
    let text : c.in_ok-text-2.text.items ≡ numbered wished (names_in_use scope) =
    c.in_ok-text-2.ensures ∙ ap (λ w. numbered w n) c.wished-wished.ensures ∙ ap (numbered wished) all in
    let free = last_is_free scope wished (omega arith) (λ m l. c.loop-number.invariant m (omega (arith, c.loop-number-test.false))) in
    ap (λ t. list_any (is_printed_as t) scope.locals) text ∙ free_no_local scope (numbered wished (names_in_use scope)) free

pub returns-clause-counted : goal.returns-clause-counted
returns-clause-counted g c =
    let scope = scope_of c.args.self.now.names.now (g.E.Entries.called c.args.self.now.entries.now) (g.E.Entries.in_scope c.args.self.now.entries.now) c.args.page.now.locals in
    let n = c.from.result + c.from-2.result in
    record {
      text = c.in_ok-text-2.ensures ∙ ap (λ w. numbered w n) c.wished-wished.ensures;
      before = λ m l. c.loop-number.invariant m (omega (arith, c.loop-number-test.false));
    }
