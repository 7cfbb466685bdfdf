use Rattle.std.proofs.Common.{◌≡◌, true, false, length, get_or, ◌∙◌, subst, arith}
use Rattle.seals.proofs.Uncleared.{counted_yes, counted_no, has_place, written_yes, written_no, written_all}
use Rattle.seals.proofs.checking.write_uncleared.Goals as goal
use Rattle.seals.proofs.checking.write_uncleared.Goals.{then-not-cleared-from, else-not-cleared-from}

pub bounds-list-count : goal.bounds-list-count
bounds-list-count c =
    let cleared = c.args.cleared.now in
    let left = subst (λ k. get_or cleared k false ≡ false) c.from.ensures c.if-not-cleared-from.true in
    let place = has_place cleared c.loop-index.index c.args.n (length c.args.list.now) left (omega arith) c.requires.room in
    omega (arith, place)

pub loop-index-preserved : goal.loop-index-preserved
loop-index-preserved c =
    let cleared = c.args.cleared.now in
    let i = c.loop-index.index in
    let list = c.args.list.now in
    let old = c.loop-index.invariant in
    elim c.if-not-cleared-from.branch [
      | then-not-cleared-from w ↦
          let left = subst (λ k. get_or cleared k false ≡ false) c.from.ensures w.if-not-cleared-from.true in
          let place = has_place cleared i c.args.n (length list) left (omega arith) c.requires.room in (
            omega arith,
            omega (arith, counted_yes cleared i left),
            w.list-is ∙ simp (old.1, old.2) (written_yes cleared i list left place),
          )
      | else-not-cleared-from w ↦
          let not_left = subst (λ k. get_or cleared k false ≡ true) c.from.ensures w.if-not-cleared-from.false in (
            omega arith,
            omega (arith, counted_no cleared i not_left),
            w.list-is ∙ old.2 ∙ written_no cleared i list not_left,
          )
    ]

pub returns : goal.returns
returns c = c.loop-index.invariant.2 ∙ written_all c.args.cleared.now c.loop-index.index c.args.n c.args.list.now (omega arith)
