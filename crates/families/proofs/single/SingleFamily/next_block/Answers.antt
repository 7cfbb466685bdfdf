use Rattle.std.proofs.Common.{sym, ap, inl, inr, arith}
use Rattle.std.specs.Option.{option_map}
use Rattle.answers.specs.Numbers.{block_number}
use Rattle.families.specs.SingleLaw.{single_next, single_no_next}
use Rattle.families.proofs.single.SingleFamily.next_block.Goals as goal

pub returns-then-row-after : goal.returns-then-row-after
returns-then-row-after c =
    sym (ap (option_map block_number) (single_no_next c.args.self.now.blocks.n c.args.row.0 c.args.after.0 (inl (omega arith))))

pub returns-then-row-get : goal.returns-then-row-get
returns-then-row-get c =
    sym (ap (option_map block_number) (single_no_next c.args.self.now.blocks.n c.args.row.0 c.args.after.0 (inr (omega arith))))

pub returns : goal.returns
returns c =
    sym (ap (option_map block_number) (single_next c.args.self.now.blocks.n c.args.row.0 c.args.after.0 (omega arith) (omega arith)))
