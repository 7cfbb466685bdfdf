-- What is known of a sheet and a seal part once the family and the block count are found to be the seal's.
use Rattle.std.proofs.Common.{◌≡◌, ◌≤◌, true, List, length, eqb, slice_index, ◌∙◌, arith}
use Rattle.std.proofs.lemmas.Bool.{and_parts, eqb-true}
use Rattle.digests.specs.Strings.{Bytes}
use Rattle.seals.specs.Scheme.{Scheme}
use Rattle.seals.specs.Part.{part_blocks, part_strength, part_rows, part_digest_kind, is_seal_part}
use Rattle.seals.specs.Calls.{same_family, same_scheme, same_count}
use Rattle.seals.proofs.Parts.{part_counted}

module _ (s : Scheme) (part : Bytes) (same : same_scheme s part ≡ true) where
  family : same_family s.family part ≡ true
  unfolding same_scheme
  family = (and_parts (same_family s.family part) (eqb (part_digest_kind part) s.digest_kind) same).0

  blocks_same : part_blocks part ≡ s.family.blocks
  unfolding same_family
  blocks_same = eqb-true (part_blocks part) s.family.blocks (and_parts (eqb (part_blocks part) s.family.blocks) _ family).0

  pub rows_same : part_rows part ≡ s.family.rows
  unfolding same_family
  rows_same =
      let e1 = (and_parts (eqb (part_blocks part) s.family.blocks) _ family).1 in
      let e2 = (and_parts (eqb (slice_index part 2) s.family.kind) _ e1).1 in
      let e3 = (and_parts (eqb (slice_index part 3) s.family.q) _ e2).1 in
      let e4 = (and_parts (eqb (slice_index part 4) s.family.k) _ e3).1 in
      let e5 = (and_parts (eqb (part_strength part) s.family.strength) _ e4).1 in
      eqb-true (part_rows part) s.family.rows e5

  pub blocks_few : is_seal_part part ≡ true → s.family.blocks ≤ 512
  blocks_few formed = omega (arith, blocks_same, part_counted part formed)

  pub blocks_counted : (bs : List Bytes) → same_count bs part ≡ true → length bs ≡ s.family.blocks
  unfolding same_count
  blocks_counted bs counted = eqb-true (length bs) (part_blocks part) counted ∙ blocks_same
