use Rattle.std.proofs.Common.{[]}
use Rattle.std.specs.Borrow.{Bor}
use Rattle.std.proofs.lemmas.List.{drop_more}
use Rattle.scripts.specs.Words.{Bytes}
use Rattle.commands.proofs.Splitting.{value_read, option_read, operand_read}
use Rattle.commands.proofs.words.Words.split.Goals as goal
use Rattle.commands.proofs.words.Words.split.Goals.{in-Some+in_ok-push, in_default+then-is_option, in_default+else-is_option+in_ok-push-2}

pub loop-word-preserved : goal.loop-word-preserved
loop-word-preserved c =
    let none : Bor Bytes = record { ref_ptr = (0, 0); now = [] } in
    let at = drop_more c.args.words.now c.loop-word.word-index none c.loop-word-test.true in
    elim c.match-name.branch [
      | in-Some+in_ok-push w ↦
          let more = value_read w.in-Some.option _ _ _ c.loop-word.name c.loop-word.operands.items c.loop-word.options.items w.in-Some.is at in
          let pushed = w.in_ok-push.ensures.items in
          record { operands = cc; options = cc; lacks = cc }
      | in_default+then-is_option w ↦
          let more = option_read _ _ _ c.loop-word.name c.loop-word.operands.items c.loop-word.options.items w.in_default.is at (cc) in
          record { operands = cc; options = cc; lacks = cc }
      | in_default+else-is_option+in_ok-push-2 w ↦
          let more = operand_read _ _ _ c.loop-word.name c.loop-word.operands.items c.loop-word.options.items w.in_default.is at (cc) in
          let pushed = w.in_ok-push-2.ensures.items in
          record { operands = cc; options = cc; lacks = cc }
    ]
