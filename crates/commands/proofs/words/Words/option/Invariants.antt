use Rattle.std.proofs.Common.{◌≡◌, cond, take, Some, None}
use Rattle.std.specs.Prelude.{fold}
use Rattle.std.specs.Str.{bytes_eq}
use Rattle.commands.proofs.words.Words.option.Given as goal

abbrev pub invariant-loop-option : goal.invariant-loop-option
invariant-loop-option l = l.found ≡ fold (λ found o. cond (bytes_eq o.0.now l.name) (Some o.1) found) None (take l.option-index l.option-items)
