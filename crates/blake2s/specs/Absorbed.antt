-- What a chain stands for. Assumes nothing.
use Rattle.std.specs.Prelude.{◌≡◌, ℕ, ◌*◌, ◌%◌, ◌^◌, length}
use Rattle.digests.specs.Strings.{Bytes}
use Rattle.blake2s.specs.Blake2s.{chained}
use Rattle.blake2s.specs.declared.chain.Chain.{Chain}

-- the bytes came in whole blocks, none of them the last
pub record Absorbed (c : Chain) (bs : Bytes) : Type 0 where
  pub number : ℕ
  pub whole : length bs ≡ 64 * number
  pub value : c.h ≡ chained bs number
  pub counted : c.count ≡ length bs % 2 ^ 64
