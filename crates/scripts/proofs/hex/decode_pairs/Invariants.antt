use Rattle.std.proofs.Common.{◌≡◌, ◌*◌, ◌≤◌, ◌++◌, length, drop, vec_items, vec_len, vec_capacity}
use Rattle.std.specs.Option.{option_map}
use Rattle.scripts.specs.Hex.{pairs_bytes}
use Rattle.scripts.proofs.hex.decode_pairs.Given as goal

-- with the pairs that are left it makes the word's bytes
abbrev pub invariant-loop-high : goal.invariant-loop-high
invariant-loop-high l =
    (option_map (λ t. vec_items l.bytes ++ t) (pairs_bytes (drop (2 * l.high-index) l.fn.word)) ≡ pairs_bytes l.fn.word)
    × (vec_len l.bytes ≡ l.high-index) × (length l.pairs ≤ vec_capacity l.bytes)
