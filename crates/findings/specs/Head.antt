-- What is told of a seal part's first bytes. Assumes nothing.
use Rattle.std.specs.Prelude.{ℕ, cond, ◌++◌, codes, decimal, ◌==◌}
use Rattle.sheets.specs.Table.{Bytes}
use Rattle.seals.specs.declared.head.PartHead.{PartHead}

-- a kind that has no name here
abbrev pub other_kind : ℕ → Bytes
other_kind kind = codes "kind " ++ decimal kind

-- the family's kind, with q and k where it has them
unfoldable pub family_name : ℕ → ℕ → ℕ → Bytes
family_name kind q k =
    cond (kind == 1) (codes "single")
    (cond (kind == 2) (codes "halves")
    (cond (kind == 3) (codes "polynomial q " ++ (decimal q ++ (codes " k " ++ decimal k)))
    (cond (kind == 4) (codes "plane") (other_kind kind))))

unfoldable pub digest_kind_name : ℕ → Bytes
digest_kind_name kind = cond (kind == 1) (codes "sha256") (cond (kind == 2) (codes "blake2s") (other_kind kind))

unfoldable pub key_kind_name : ℕ → Bytes
key_kind_name kind = cond (kind == 1) (codes "tag") (cond (kind == 2) (codes "lms") (other_kind kind))

abbrev pub number_line : ℕ → Bytes
number_line number = codes "seal number " ++ (decimal number ++ codes "\n")

-- the family's numbers
unfoldable pub family_line : PartHead → Bytes
family_line h =
    codes "family " ++ (family_name h.kind h.q h.k ++ (codes ", " ++ (decimal h.blocks
    ++ (codes " blocks in " ++ (decimal h.rows ++ (codes " rows, strength " ++ (decimal h.strength ++ codes "\n")))))))

-- the digest and the key
unfoldable pub kind_lines : PartHead → Bytes
kind_lines h = codes "digest " ++ (digest_kind_name h.digest_kind ++ (codes "\nkey " ++ (key_kind_name h.sealer_kind ++ codes "\n")))
