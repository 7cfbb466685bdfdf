-- The digests by their names. Assumes nothing.
use Rattle.std.specs.Prelude.{ℕ, [], ◌∷◌, codes, Option}
use Rattle.blake2s.specs.Blake2s.{blake2s}
use Rattle.scripts.specs.Words.{Bytes, entry_at}
use Rattle.sha256.specs.Sha256.{sha256_of}
use Rattle.told.specs.declared.algorithm.Algorithm.{Algorithm}
use Rattle.told.specs.declared.algorithm.Algorithm.TheVariants.{Sha256, Blake2s}

abbrev pub algorithm_of : Bytes → Option Algorithm
algorithm_of = entry_at ((codes "sha256", Sha256) ∷ ((codes "blake2s", Blake2s) ∷ []))

-- the name by which a text tells it
abbrev pub algorithm_name : Algorithm → Bytes
algorithm_name Sha256 = codes "sha256"
algorithm_name Blake2s = codes "blake2s"

-- the digest of a text
abbrev pub digest_by : Algorithm → Bytes → Bytes
digest_by Sha256 text = sha256_of text
digest_by Blake2s text = blake2s text

-- the number by which a seal part names it
abbrev pub digest_number : Algorithm → ℕ
digest_number Sha256 = 1
digest_number Blake2s = 2
