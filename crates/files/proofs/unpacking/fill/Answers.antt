use Rattle.std.proofs.Common.{arith}
use Rattle.sheets.specs.Blocks.{blocks_of}
use Rattle.files.specs.File.{blocks_in}
use Rattle.files.proofs.Walked.{fill_start, fill_frame, fill_slot, fill_room, fill_more, fill_end}
use Rattle.files.proofs.unpacking.fill.Goals as goal

pub loop-index-init : goal.loop-index-init
loop-index-init c = fill_start c.args.count (blocks_of c.args.sheet.now) c.args.frames.now c.requires.empty c.requires.frames (λ k. omega (arith, c.type_inv.frames k))

pub next_frame-requires : goal.next_frame-requires
next_frame-requires c =
    fill_frame (blocks_in c.args.count c.args.frames.now) c.args.count c.loop-index.index (blocks_of c.loop-index.sheet) c.loop-index.left.now c.loop-index.invariant
    c.loop-index-test.true c.requires.count

pub append-requires-clause-slot : goal.append-requires-clause-slot
append-requires-clause-slot c =
    fill_slot (blocks_in c.args.count c.args.frames.now) c.args.count c.loop-index.index (blocks_of c.loop-index.sheet) c.loop-index.left.now c.loop-index.invariant
    c.loop-index-test.true c.requires.count

pub append-requires-clause-room : goal.append-requires-clause-room
append-requires-clause-room c =
    fill_room (blocks_in c.args.count c.args.frames.now) c.args.count c.loop-index.index (blocks_of c.loop-index.sheet) c.loop-index.left.now c.loop-index.invariant
    c.loop-index-test.true c.requires.count c.next_frame.result.0.now c.next_frame.ensures.block

pub loop-index-preserved : goal.loop-index-preserved
loop-index-preserved c =
    fill_more (blocks_in c.args.count c.args.frames.now) c.args.count c.loop-index.index (blocks_of c.loop-index.sheet) c.loop-index.left.now c.loop-index.invariant
    c.loop-index-test.true c.requires.count _ _ _ c.next_frame.ensures.block c.next_frame.ensures.left c.append.ensures

pub returns : goal.returns
returns c =
    fill_end (blocks_in c.args.count c.args.frames.now) c.args.count c.loop-index.index (blocks_of c.loop-index.sheet) c.loop-index.left.now c.loop-index.invariant (omega arith)
