-- What is known of a seal part that was read as one.
use Rattle.std.specs.Prelude.{◌≡◌, ◌+◌, ◌*◌, ◌≤◌, true, length, nat_le, nat_lt, ◌==◌, slice_index}
use Rattle.std.proofs.Common.{arith}
use Rattle.std.proofs.lemmas.Bool.{and_parts, eqb-true, leb-true}
use Rattle.digests.specs.Strings.{Bytes}
use Rattle.seals.specs.Part.{word, to_512, is_seal_part, part_blocks, part_rows, part_strength, part_digest_kind, part_sealer_kind, text_length}

module _ (b : Bytes) (formed : is_seal_part b ≡ true) where
  counts : to_512 (part_blocks b) ≡ true
  unfolding is_seal_part
  counts = (and_parts (to_512 (part_blocks b)) _ formed).0

  pub part_length : length b ≡ 50 + (32 * part_rows b + word b (text_length b))
  unfolding is_seal_part
  part_length =
      let e1 = (and_parts (to_512 (part_blocks b)) _ formed).1 in
      let e2 = (and_parts (to_512 (part_rows b)) _ e1).1 in
      let e3 = (and_parts (to_512 (part_strength b)) _ e2).1 in
      let e4 = (and_parts (nat_lt 0 (slice_index b 2)) _ e3).1 in
      let e5 = (and_parts (nat_lt 0 (part_digest_kind b)) _ e4).1 in
      let e6 = (and_parts (nat_lt 0 (part_sealer_kind b)) _ e5).1 in
      let e7 = (and_parts (slice_index b 7 == 0) _ e6).1 in
      eqb-true (length b) (50 + (32 * part_rows b + word b (text_length b))) e7

  pub part_long : text_length b + 2 ≤ length b
  part_long = omega (arith, part_length)

  pub part_head : 50 ≤ length b
  part_head = omega (arith, part_long)

  pub part_counted : (1 ≤ part_blocks b) × (part_blocks b ≤ 512)
  unfolding to_512
  part_counted =
      let t = and_parts (nat_le 1 (part_blocks b)) (nat_le (part_blocks b) 512) counts in
      (leb-true 1 (part_blocks b) t.0, leb-true (part_blocks b) 512 t.1)

  pub part_has_rows : (1 ≤ part_rows b) × (part_rows b ≤ 512)
  unfolding is_seal_part to_512
  part_has_rows =
      let e1 = (and_parts (to_512 (part_blocks b)) _ formed).1 in
      let t = and_parts (nat_le 1 (part_rows b)) (nat_le (part_rows b) 512) (and_parts (to_512 (part_rows b)) _ e1).0 in
      (leb-true 1 (part_rows b) t.0, leb-true (part_rows b) 512 t.1)
