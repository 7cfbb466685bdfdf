use Rattle.std.proofs.Common.{◌≡◌, ◌≤◌, drop}
use Rattle.scripts.specs.Words.{number_behind, at_most, number_of}
use Rattle.scripts.proofs.words.parse_number.Given as goal

-- with the digits that are left it makes the word's number
abbrev pub invariant-loop-byte : goal.invariant-loop-byte
invariant-loop-byte l =
    (l.number ≤ l.most)
    × (at_most l.most (number_behind l.number (drop l.byte-index l.word)) ≡ number_of l.word l.most)
