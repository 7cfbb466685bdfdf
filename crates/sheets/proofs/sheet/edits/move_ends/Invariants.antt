use Rattle.std.proofs.Common.{◌≡◌, ◌+◌, ◌-◌, ◌++◌, map, take, drop}
use Rattle.sheets.proofs.sheet.edits.move_ends.Given as goal

-- the ends below the index have moved, the others stand as they did
abbrev pub invariant-loop-end : goal.invariant-loop-end
invariant-loop-end l = l.ends ≡ map (λ end. end - l.back + l.on) (take l.end-index l.initial.ends) ++ drop l.end-index l.initial.ends
