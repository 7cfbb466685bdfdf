use Rattle.std.proofs.Common.{◌≡◌, ℕ, ◌≤◌, Some, None, sym, refl, ap, ◌∙◌, inr, arith}
use Rattle.answers.specs.declared.Refusal.TheVariants.{NoSuchParameter}
use Rattle.families.specs.Any.{any_shape}
use Rattle.families.specs.Choice.{numbered_answer, numbered_shape, pairs, first_fit, Chosen, NothingFits}
use Rattle.families.proofs.Fits.{counted, found, nothing, choose_pair, choose_none, numbered_good, by_shape}
use Rattle.families.proofs.choose.choose.Goals as goal

pub returns : goal.returns
returns c =
    let n = c.args.n in
    let d = c.args.d in
    let same : c.get-n.result ≡ n = c.get-n.ensures.value ∙ counted 512 n _ c.in_ok-new.ensures in
    let p : ℕ × ℕ = (c.in-Some.q, c.in-Some.k) in
    let low : 1 ≤ n = omega arith in
    let high : n ≤ 512 = omega arith in
    let fit : Some p ≡ first_fit n d pairs = c.in-Some.ensures ∙ ap (λ m. first_fit m d pairs) same in
    let first = found n d p fit in
    let good = ap (numbered_answer p.0 p.1) same ∙ numbered_good n d p low high first.0.fits_here first.1 in
    let choice : Chosen n d (numbered_shape p.0 p.1 n) = inr (c.if-d-eq1.false, refl, first.0) in
    record {
      answer = c.polynomial.ensures ∙ good ∙ sym (choose_pair n d low high c.if-d-eq1.false p fit);
      first = by_shape any_shape (Chosen n d) (λ e. e ≡ NoSuchParameter → NothingFits n d) c.polynomial.result (numbered_shape p.0 p.1 n) (c.polynomial.ensures ∙ good) choice;
    }

pub returns-in_default : goal.returns-in_default
returns-in_default c =
    let n = c.args.n in
    let d = c.args.d in
    let same : c.get-n.result ≡ n = c.get-n.ensures.value ∙ counted 512 n _ c.in_ok-new.ensures in
    let none : None ≡ first_fit n d pairs = c.in_default.ensures ∙ ap (λ m. first_fit m d pairs) same in
    record {
      answer = sym (choose_none n d (omega arith) (omega arith) c.if-d-eq1.false none);
      first = λ e. nothing n d c.if-d-eq1.false none;
    }
