use Rattle.std.proofs.Common.{◌≡◌, length, get_or, refl, rules}
use Rattle.sha256.specs.Sha256.{σ0, σ1}
use Rattle.sha256.proofs.Following.{following}
use Rattle.sha256.proofs.Summed.{four}
use Rattle.sha256.proofs.schedule.next_four.Goals as goal

pub returns : goal.returns
unfolding σ0 σ1
returns c =
    let w = c.args.w in
    let l0 : length w.0 ≡ 4 = search rules in
    let l1 : length w.1 ≡ 4 = search rules in
    let l2 : length w.2 ≡ 4 = search rules in
    let l3 : length w.3 ≡ 4 = search rules in
    rw (c.small-3.ensures, c.small-2.ensures, c.small.ensures, four w.0 l0, four w.1 l1, four w.2 l2, four w.3 l3)
    (following (get_or w.0 0 0) (get_or w.0 1 0) (get_or w.0 2 0) (get_or w.0 3 0) (get_or w.1 0 0) (get_or w.1 1 0) (get_or w.1 2 0) (get_or w.1 3 0) (get_or w.2 0 0) (get_or w.2 1 0) (get_or w.2 2 0) (get_or w.2 3 0) (get_or w.3 0 0) (get_or w.3 1 0) (get_or w.3 2 0) (get_or w.3 3 0) _ _ refl refl)
