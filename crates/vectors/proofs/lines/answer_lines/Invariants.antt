use Rattle.std.proofs.Common.{◌≡◌, ◌++◌, List, string_bytes}
use Rattle.std.specs.List.{flat_map}
use Rattle.std.proofs.lemmas.Iterator.{YieldsList}
use Rattle.scripts.specs.Words.{Bytes}
use Rattle.vectors.specs.Prints.{line_text, input_text}
use Rattle.vectors.proofs.lines.answer_lines.Given as goal

-- with the lines that are left it prints all
abbrev pub invariant-loop-line : goal.invariant-loop-line
invariant-loop-line l =
    (rest : List Bytes) × YieldsList goal.iterator-loop-line.next_gives (λ x. x.now) l.line-iterator rest
    × (string_bytes l.out ++ flat_map line_text rest ≡ input_text l.fn.input)
