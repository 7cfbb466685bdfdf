-- What a seal is made and checked by. Assumes nothing.
use Rattle.std.specs.Prelude.{ℕ, Bool}
use Rattle.digests.specs.Strings.{Bytes}
use Rattle.families.specs.Shape.{Shape}

-- a digest and a family, by what they mean
pub record Scheme : Type 0 where
  pub digest : Bytes → Bytes
  pub digest_kind : ℕ
  pub family : Shape

-- an inspector, by what it means: its kind, and its yes or no to a number, a text and a signature
pub record Inspection : Type 0 where
  pub kind : ℕ
  pub says : ℕ → Bytes → Bytes → Bool

-- a digest, its kind and a family, put together
abbrev pub scheme : (Bytes → Bytes) → ℕ → Shape → Scheme
scheme digest digest_kind family = record { digest = digest; digest_kind = digest_kind; family = family }

-- a kind and a yes or no, put together
abbrev pub inspection : ℕ → (ℕ → Bytes → Bytes → Bool) → Inspection
inspection kind says = record { kind = kind; says = says }
