use Rattle.std.proofs.Common.{◌≡◌, ◌++◌, codes, sym, ◌∙◌, refl}
use Rattle.std.specs.Cmp.Lexicographic.{same_text, other_text}
use Rattle.lego_words.proofs.OptionLemmas.{Begins, begins, second, no_second, ok_from, err_from, is_stop, second_stop, second_steps, no_option, no_value, bad_value, bad_joined, is_value, is_joined}
use Rattle.lego_words.specs.Words.{texts}
use Rattle.lego_words.proofs.form.option_at.Goals as goal

pub returns-then-given-clause-err : goal.returns-then-given-clause-err
returns-then-given-clause-err c =
    let b : Begins (texts c.args.words.now) c.as_str-word.result.now =
    rw c.as_str-word.ensures.value (begins c.args.words.now c.index-words-0.result c.index-words-0.result c.requires c.index-words-0.is) in
    let is = same_text c.as_str-word.result.now (codes "--stop") (sym c.if-eq.true ∙ c.eq.ensures) in
    second_stop c.args.given b is c.if-given.true

pub returns-then-eq-clause-ok : goal.returns-then-eq-clause-ok
returns-then-eq-clause-ok c =
    let b : Begins (texts c.args.words.now) c.as_str-word.result.now =
    rw c.as_str-word.ensures.value (begins c.args.words.now c.index-words-0.result c.index-words-0.result c.requires c.index-words-0.is) in
    let is = same_text c.as_str-word.result.now (codes "--stop") (sym c.if-eq.true ∙ c.eq.ensures) in
    is_stop c.args.given b is c.if-given.false

pub returns-then-given-2-clause-err : goal.returns-then-given-2-clause-err
returns-then-given-2-clause-err c =
    let b : Begins (texts c.args.words.now) c.as_str-word.result.now =
    rw c.as_str-word.ensures.value (begins c.args.words.now c.index-words-0.result c.index-words-0.result c.requires c.index-words-0.is) in
    second_steps c.args.given b (other_text c.as_str-word.result.now (codes "--stop") (sym c.if-eq.false ∙ c.eq.ensures)) c.if-given-2.true

pub returns-in_default-clause-err : goal.returns-in_default-clause-err
returns-in_default-clause-err c =
    let b : Begins (texts c.args.words.now) c.as_str-word.result.now =
    rw c.as_str-word.ensures.value (begins c.args.words.now c.index-words-0.result c.index-words-0.result c.requires c.index-words-0.is) in
    let is = same_text c.as_str-word.result.now (codes "--steps") (sym c.if-eq-2.true ∙ c.eq-2.ensures) in
    no_value c.args.given b c.if-given-2.false is (no_second c.args.words.now c.in_default.ensures.lookup.3)

pub returns-then-eq-2-clause-ok : goal.returns-then-eq-2-clause-ok
returns-then-eq-2-clause-ok c =
    let b : Begins (texts c.args.words.now) c.as_str-word.result.now =
    rw c.as_str-word.ensures.value (begins c.args.words.now c.index-words-0.result c.index-words-0.result c.requires c.index-words-0.is) in
    let is = same_text c.as_str-word.result.now (codes "--steps") (sym c.if-eq-2.true ∙ c.eq-2.ensures) in
    let k = c.in-Some.ensures.lookup in
    let there = second c.args.words.now c.in-Some.text.now k.3.0 k.1 ∙ rw c.as_str.ensures.value refl in
    ok_from c.with_steps.result 1 c.ok_or.ensures.value c.with_steps.ensures.some (λ next w. is_value c.args.given b c.if-given-2.false is there w)

pub returns-then-eq-2-clause-err : goal.returns-then-eq-2-clause-err
returns-then-eq-2-clause-err c =
    let b : Begins (texts c.args.words.now) c.as_str-word.result.now =
    rw c.as_str-word.ensures.value (begins c.args.words.now c.index-words-0.result c.index-words-0.result c.requires c.index-words-0.is) in
    let is = same_text c.as_str-word.result.now (codes "--steps") (sym c.if-eq-2.true ∙ c.eq-2.ensures) in
    let k = c.in-Some.ensures.lookup in
    let there = second c.args.words.now c.in-Some.text.now k.3.0 k.1 ∙ rw c.as_str.ensures.value refl in
    err_from _ c.with_steps.result 1 c.ok_or.ensures.value c.with_steps.ensures.none (λ never. bad_value c.args.given b c.if-given-2.false is there never)

pub returns-in_default-strip_prefix-clause-err : goal.returns-in_default-strip_prefix-clause-err
returns-in_default-strip_prefix-clause-err c =
    let b : Begins (texts c.args.words.now) c.as_str-word.result.now =
    rw c.as_str-word.ensures.value (begins c.args.words.now c.index-words-0.result c.index-words-0.result c.requires c.index-words-0.is) in
    no_option c.args.given b (other_text c.as_str-word.result.now (codes "--stop") (sym c.if-eq.false ∙ c.eq.ensures))
    (other_text c.as_str-word.result.now (codes "--steps") (sym c.if-eq-2.false ∙ c.eq-2.ensures))
    c.in_default-strip_prefix.ensures.cases

pub returns-clause-ok : goal.returns-clause-ok
returns-clause-ok c =
    let b : Begins (texts c.args.words.now) c.as_str-word.result.now =
    rw c.as_str-word.ensures.value (begins c.args.words.now c.index-words-0.result c.index-words-0.result c.requires c.index-words-0.is) in
    let g = c.in-Some-strip_prefix.ensures.cases in
    let is : c.as_str-word.result.now ≡ codes "--steps=" ++ c.in-Some-strip_prefix.text.now = rw g.2 g.1.1 in
    ok_from c.with_steps-2.result 0 c.ok_or-2.ensures.value c.with_steps-2.ensures.some (λ next w. is_joined c.args.given b c.if-given-2.false is w)

pub returns-clause-err : goal.returns-clause-err
returns-clause-err c =
    let b : Begins (texts c.args.words.now) c.as_str-word.result.now =
    rw c.as_str-word.ensures.value (begins c.args.words.now c.index-words-0.result c.index-words-0.result c.requires c.index-words-0.is) in
    let g = c.in-Some-strip_prefix.ensures.cases in
    let is : c.as_str-word.result.now ≡ codes "--steps=" ++ c.in-Some-strip_prefix.text.now = rw g.2 g.1.1 in
    err_from _ c.with_steps-2.result 0 c.ok_or-2.ensures.value c.with_steps-2.ensures.none (λ never. bad_joined c.args.given b c.if-given-2.false is never)
