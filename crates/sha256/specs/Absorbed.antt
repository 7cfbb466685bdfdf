-- What the hash value over whole blocks stands for. Assumes nothing.
use Rattle.std.specs.Prelude.{◌≡◌, ◌/◌, ◌%◌, ◌^◌, length}
use Rattle.digests.specs.Strings.{Bytes}
use Rattle.sha256.specs.declared.chain.Chain.{Chain}
use Rattle.sha256.specs.Sha256.{initial, hashed}

pub record Absorbed (c : Chain) (bs : Bytes) : Type 0 where
  pub whole : length bs % 64 ≡ 0
  pub state_is : c.state ≡ hashed (length bs / 64) bs initial
  pub count_is : c.count ≡ length bs % 2 ^ 64
