-- Values of the small definitions: RFC 8554's own examples of coef, and checksums that can be added up by hand. Assumes nothing.
use Rattle.std.specs.Prelude.{◌≡◌, [], ◌∷◌, replicate}
use Rattle.lms.specs.Strings.{u16str, u32str, str_to_u32, coefficient}
use Rattle.lms.specs.Lmots.{checksum}

pub record WorkedValues : Type 0 where
  pub number : u32str 0x01020304 ≡ 1 ∷ 2 ∷ 3 ∷ 4 ∷ []
  pub short_number : u16str 0xfffd ≡ 0xff ∷ 0xfd ∷ []
  pub back : str_to_u32 (1 ∷ 2 ∷ 3 ∷ 4 ∷ []) ≡ 0x01020304
  pub bit : coefficient (0x12 ∷ 0x34 ∷ []) 7 1 ≡ 0
  pub half_byte : coefficient (0x12 ∷ 0x34 ∷ []) 0 4 ≡ 1
  pub byte : coefficient (0x12 ∷ 0x34 ∷ []) 1 8 ≡ 0x34
  -- 32 * 255 = 0x1fe0, and 32 * (255 - 0x7f) = 0x1000
  pub all_zero : checksum (replicate 32 0) ≡ 0x1f ∷ 0xe0 ∷ []
  pub all_ones : checksum (replicate 32 255) ≡ 0 ∷ 0 ∷ []
  pub half : checksum (replicate 32 0x7f) ≡ 0x10 ∷ 0 ∷ []
