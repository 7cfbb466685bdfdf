use Rattle.std.proofs.Common.{◌≡◌, ◌++◌, drop, vec_items, vec_capacity}
use Rattle.sheets.proofs.Lines.{marks}
use Rattle.sheets.proofs.sheet.edits.push_line_ends.Given as goal

-- with the line ends at a 0A that are left it makes all of these
abbrev pub invariant-loop-index : goal.invariant-loop-index
invariant-loop-index l =
    (vec_items l.ends ++ marks l.index (drop l.index l.text) ≡ vec_items l.initial.ends ++ marks 0 l.text)
    × (vec_capacity l.ends ≡ vec_capacity l.initial.ends)
