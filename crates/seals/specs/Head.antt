-- The numbers in the first sixteen bytes of a seal part. Assumes nothing.
use Rattle.std.specs.Prelude.{cond, Some, None, Option}
use Rattle.digests.specs.Strings.{Bytes}
use Rattle.seals.specs.Part.{part_blocks, part_family_kind, part_q, part_k, part_digest_kind, part_sealer_kind, part_strength, part_rows, is_seal_part, seal_number}
use Rattle.seals.specs.declared.head.PartHead.{PartHead}

abbrev pub head_fields : Bytes → PartHead
head_fields b =
    record {
      blocks = part_blocks b;
      kind = part_family_kind b;
      q = part_q b;
      k = part_k b;
      digest_kind = part_digest_kind b;
      sealer_kind = part_sealer_kind b;
      strength = part_strength b;
      rows = part_rows b;
      number = seal_number b;
    }

-- none where the bytes are no seal part
abbrev pub head_answer : Bytes → Option PartHead
head_answer b = cond (is_seal_part b) (Some (head_fields b)) None
