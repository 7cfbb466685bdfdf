use Rattle.std.proofs.Common.{◌≡◌, ◌++◌, List, vec_items}
use Rattle.std.proofs.lemmas.Iterator.{YieldsList}
use Rattle.scripts.specs.Words.{Bytes}
use Rattle.nazkoiber.specs.State.{state}
use Rattle.nazkoiber.specs.Answering.{lines_text, script_text}
use Rattle.nazkoiber.proofs.bench.Bench.run_script.Given as goal

-- with the lines that are left it prints all
abbrev pub invariant-loop-line : goal.invariant-loop-line
invariant-loop-line l =
    (rest : List Bytes) × YieldsList goal.iterator-loop-line.next_gives (λ x. x.now) l.line-iterator rest
    × (vec_items l.out ++ lines_text rest (state l.self) ≡ vec_items l.initial.out ++ script_text l.fn.script (state l.initial.self))
