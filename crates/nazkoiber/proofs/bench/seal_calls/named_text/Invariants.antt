use Rattle.std.proofs.Common.{◌≡◌, ◌++◌, codes, drop, string_bytes}
use Rattle.answers.specs.Refusals.{spaced}
use Rattle.nazkoiber.proofs.bench.seal_calls.named_text.Given as goal

-- with the numbers that are left it names all
abbrev pub invariant-loop-number : goal.invariant-loop-number
invariant-loop-number l = string_bytes l.text ++ spaced (drop l.number-index l.numbers) ≡ codes "named" ++ spaced l.numbers
