use Rattle.std.proofs.Common.{◌≡◌, ◌++◌, drop}
use Rattle.commands.specs.Readings.{operands_of, options_of, lacks_word}
use Rattle.commands.proofs.words.Words.split.Given as goal

abbrev pub invariant-loop-word : goal.invariant-loop-word
invariant-loop-word l = record {
  operands : l.operands.items ++ operands_of l.name (drop l.word-index l.words) ≡ operands_of l.initial.name l.words;
  options : l.options.items ++ options_of l.name (drop l.word-index l.words) ≡ options_of l.initial.name l.words;
  lacks : lacks_word l.name (drop l.word-index l.words) ≡ lacks_word l.initial.name l.words;
}
