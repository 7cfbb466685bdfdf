use Rattle.std.proofs.Common.{◌≡◌, ◌+◌, ◌-◌, length, sym, ap, ◌∙◌, arith}
use Rattle.files.specs.File.{is_frames}
use Rattle.files.specs.Frames.{behind}
use Rattle.files.proofs.Walked.{holds_from, walk_start, turn, turn_fails, turn_end, front_size, small_left}
use Rattle.files.proofs.unpacking.walk.Goals as goal

pub loop-index-init : goal.loop-index-init
loop-index-init c =
    let all : c.args.count - 0 ≡ c.args.count = omega arith in (
      walk_start c.args.count c.args.frames.now ∙ ap (λ n. holds_from 1 n 0 c.args.frames.now) (sym all),
      λ k. omega (arith, c.type_inv.frames k),
      omega arith,
    )

pub returns-in_err-block : goal.returns-in_err-block
returns-in_err-block c =
    let h = c.loop-index.invariant in
    rw c.from_residual.ensures
    (turn_fails (is_frames c.args.count c.args.frames.now) c.args.count c.loop-index.index c.loop-index.total c.loop-index.left.now h.0 (omega arith) (omega arith) h.1
    c.in_err-block.ensures)

pub loop-index-preserved : goal.loop-index-preserved
loop-index-preserved c =
    let h = c.loop-index.invariant in
    let i = c.loop-index.index in
    let n = c.args.count in
    let total = c.loop-index.total in
    let e = c.loop-index.left.now in
    let f = c.in_ok-block.ensures in
    let size = front_size (i + 1) e h.1 f.0 in (
      turn (is_frames n c.args.frames.now) n i total e h.0 (omega arith) (omega arith) h.1 f.0
          ∙ ap (λ k. holds_from (i + 1 + 1) (n - (i + 1)) (total + length k) (behind e)) (sym f.1)
          ∙ ap (holds_from (i + 1 + 1) (n - (i + 1)) (total + length c.in_ok-block.block.now)) (sym f.2),
      rw f.2 (small_left e h.1),
      omega (arith, h.2, size, ap length f.1, ap length f.2),
    )

pub returns : goal.returns
returns c =
    turn_end (is_frames c.args.count c.args.frames.now) c.args.count c.loop-index.index c.loop-index.total c.loop-index.left.now c.loop-index.invariant.0 (omega arith)
