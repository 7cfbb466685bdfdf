use Rattle.std.proofs.Common.{◌≡◌, ◌≢◌, ℕ, ◌+◌, ◌*◌, ◌/◌, ◌<◌, ◌++◌, List, [], length, get_or, drop, vec_items, Some, None, sym, ap, ◌∙◌, arith}
use Rattle.std.proofs.lemmas.Bool.Decides.{nat_tests}
use Rattle.std.specs.Option.{option_map}
use Rattle.std.specs.Simd.{first_chunks}
use Rattle.scripts.specs.Hex.{pair_value, pairs_bytes}
use Rattle.scripts.proofs.HexLemmas.{chunk_at, pairs_more, pairs_stop, pairs_all, pairs_odd}
use Rattle.scripts.proofs.hex.decode_pairs.Goals as goal
use Rattle.scripts.proofs.hex.decode_pairs.Goals.{After-decode_pair}

-- the pair of the turn is that of the word
paired : (c : After-decode_pair) → c.decode_pair.result ≡ pair_value (get_or c.args.word.now (2 * c.loop-high.high-index) 0) (get_or c.args.word.now (2 * c.loop-high.high-index + 1) 0)
paired c =
    let word = c.args.word.now in
    let i = c.loop-high.high-index in
    let n = length word / 2 in
    let within : i < n = omega (arith, c.as_chunks.ensures.front_len) in
    let digit : ℕ → ℕ = λ k. get_or (get_or (first_chunks 2 n word) i []) k 0 in
    let first : 2 * i + 0 ≡ 2 * i = omega arith in
    c.decode_pair.ensures
    ∙ ap (λ (cs : List (List ℕ)). pair_value (get_or (get_or cs i []) 0 0) (get_or (get_or cs i []) 1 0)) c.as_chunks.ensures.front
    ∙ ap (λ h. pair_value h (digit 1)) (chunk_at n i 0 word [] within (omega arith) ∙ ap (λ j. get_or word j 0) first)
    ∙ ap (pair_value (get_or word (2 * i) 0)) (chunk_at n i 1 word [] within (omega arith))

pub returns-in_default : goal.returns-in_default
returns-in_default c =
    let word = c.args.word.now in
    let none : None ≡ c.decode_pair.result = sym c.in_default.is in
    sym (pairs_stop word c.loop-high.high-index (omega (arith, c.as_chunks.ensures.front_len)) (vec_items c.loop-high.bytes) (none ∙ paired (goal.at.returns-in_default c).After-decode_pair) ∙ c.loop-high.invariant.0)

pub loop-high-preserved : goal.loop-high-preserved
loop-high-preserved c =
    let word = c.args.word.now in
    let i = c.loop-high.high-index in
    let rest = pairs_bytes (drop (2 * (i + 1)) word) in
    let some : Some c.in-Some.byte ≡ c.decode_pair.result = sym c.in-Some.is in
    let next = pairs_more word i (omega (arith, c.as_chunks.ensures.front_len)) (vec_items c.loop-high.bytes) c.in-Some.byte (some ∙ paired (goal.at.loop-high-preserved c).After-decode_pair) in
    (ap (λ v. option_map (λ t. v ++ t) rest) c.push_reserved.ensures.items ∙ next ∙ c.loop-high.invariant.0, omega arith, omega arith)

pub returns-then-not-is_empty : goal.returns-then-not-is_empty
returns-then-not-is_empty c =
    let odd : length c.as_chunks.result.1.now ≢ 0 = let e = c.is_empty.ensures in let f = c.if-not-is_empty.true in grind (arith, nat_tests) in
    sym (pairs_odd c.args.word.now (length c.args.word.now / 2) (omega (arith, c.as_chunks.ensures.back_len)))

pub returns : goal.returns
returns c =
    let even : length c.as_chunks.result.1.now ≡ 0 = let e = c.is_empty.ensures in let f = c.if-not-is_empty.false in grind (arith, nat_tests) in
    sym (pairs_all c.args.word.now (vec_items c.loop-high.bytes) c.loop-high.high-index (omega (arith, c.as_chunks.ensures.front_len, c.as_chunks.ensures.back_len)) ∙ c.loop-high.invariant.0)
