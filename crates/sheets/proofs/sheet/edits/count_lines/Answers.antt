use Rattle.std.proofs.Common.{◌≡◌, ◌≤◌, ◌^◌, Bool, true, false, length, eqb, count_by, rules, arith}
use mir.Val.{bool_byte}
use Rattle.std.proofs.lemmas.Iterator.{YieldsList-from_slice}
use Rattle.std.proofs.lemmas.Iterator.Adapters.{fits_from_length, at_most_from_yields_List}
use Rattle.std.proofs.lemmas.List.Sums.{count_by-le-length}
use Rattle.sheets.proofs.Lines.{line_ends_count, length_lines}
use Rattle.sheets.proofs.sheet.edits.count_lines.Goals as goal

-- a test adds 1 at most
at_most_one : (v : Bool) → bool_byte v ≤ 1
at_most_one true = omega arith
at_most_one false = omega arith

pub sum-ended-requires-clause-fits : goal.sum-ended-requires-clause-fits
sum-ended-requires-clause-fits c =
    let few : length c.args.text.now ≤ 2 ^ 63 = omega arith in
    fits_from_length _ _ (2 ^ 63) (2 ^ 64) (at_most_from_yields_List (YieldsList-from_slice c.args.text.now cc) few) c.map.ensures.closure (omega arith) (λ x r q k. search (rules, at_most_one))

pub overflow_add-result : goal.overflow_add-result
overflow_add-result c =
    let ended : c.sum-ended.result ≡ count_by (λ x. eqb x 10) c.args.text.now = search rules in
    omega (arith, ended, count_by-le-length (λ x. eqb x 10) c.args.text.now, at_most_one c.ends_open.result)

pub returns : goal.returns
returns c =
    let ended : c.sum-ended.result ≡ count_by (λ x. eqb x 10) c.args.text.now = search rules in
    omega (arith, line_ends_count c.args.text.now c.ends_open.result c.ends_open.ensures, length_lines c.args.text.now)
