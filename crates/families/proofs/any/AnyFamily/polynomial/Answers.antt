use Rattle.std.proofs.Common.{◌^◌, ◌∙◌}
use Rattle.std.proofs.lemmas.Result.{err_from_is_err_and}
use Rattle.families.specs.Field.{primes, binaries}
use Rattle.families.specs.Degrees.{degree}
use Rattle.families.specs.Known.{degree_known}
use Rattle.families.specs.Numbered.{made_field, prime_by, binary_numbered}
use Rattle.families.proofs.any.AnyFamily.polynomial.Goals as goal

pub returns-in_err-new-in-8 : goal.returns-in_err-new-in-8
returns-in_err-new-in-8 c =
    let p = err_from_is_err_and c.from_residual-in_err-new-in-8.result c.from_residual-in_err-new-in-8.ensures.1 in
    let f = c.in_ok-field-in-8.field in
    let e = degree f in
    rw (p.1, p.2)
    (c.in_err-new-in-8.ensures
    ∙ binary_numbered e c.args.q (degree_known f) (made_field binaries c.args.q (2 ^ e) c.in_ok-field-in-8.ensures.answer) c.args.k c.args.n)

pub returns-in_ok-new-in-8 : goal.returns-in_ok-new-in-8
returns-in_ok-new-in-8 c =
    let f = c.in_ok-field-in-8.field in
    let e = degree f in
    c.in_ok-new-in-8.ensures
    ∙ binary_numbered e c.args.q (degree_known f) (made_field binaries c.args.q (2 ^ e) c.in_ok-field-in-8.ensures.answer) c.args.k c.args.n

pub returns-in_err-new-in_default : goal.returns-in_err-new-in_default
returns-in_err-new-in_default c =
    let p = err_from_is_err_and c.from_residual-in_err-new-in_default.result c.from_residual-in_err-new-in_default.ensures.1 in
    let f = c.in_ok-field-in_default.field in
    rw (p.1, p.2)
    (c.in_err-new-in_default.ensures
    ∙ prime_by f.q c.args.q f.prime (made_field primes c.args.q f.q c.in_ok-field-in_default.ensures.answer) c.args.k c.args.n)

pub returns-in_ok-new-in_default : goal.returns-in_ok-new-in_default
returns-in_ok-new-in_default c =
    let f = c.in_ok-field-in_default.field in
    c.in_ok-new-in_default.ensures
    ∙ prime_by f.q c.args.q f.prime (made_field primes c.args.q f.q c.in_ok-field-in_default.ensures.answer) c.args.k c.args.n
