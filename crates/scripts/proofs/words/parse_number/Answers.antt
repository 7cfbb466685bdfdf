use Rattle.std.proofs.Common.{◌+◌, ◌*◌, drop, sym, ap, ◌∙◌, arith}
use Rattle.scripts.specs.Words.{at_most}
use Rattle.scripts.proofs.WordLemmas.{past_most, digits_more}
use Rattle.scripts.proofs.words.parse_number.Goals as goal

pub returns-then-number-from-clause-value : goal.returns-then-number-from-clause-value
returns-then-number-from-clause-value c =
    let word = c.args.word.now in
    let most = c.args.most in
    let old = c.loop-byte.number in
    let i = c.loop-byte.byte-index in
    let digit = c.in_ok-decimal_digit.field-0 in
    past_most most (old * 10 + digit) (drop (i + 1) word) (omega arith)
    ∙ ap (at_most most) (sym (digits_more word most old i digit c.loop-byte-test.true c.in_ok-decimal_digit.ensures.value)) ∙ c.loop-byte.invariant.1
