-- HMAC of RFC 2104 with a key of 32 bytes, over a digest of some block length B. Assumes nothing.
use Rattle.std.specs.Prelude.{ℕ, ◌-◌, ◌++◌, map, replicate, bit_xor}
use Rattle.digests.specs.Strings.{Bytes}

-- each byte XOR a mask
abbrev pub under : ℕ → Bytes → Bytes
under mask = map (λ x. bit_xor x mask)

-- the key, filled up with 0 to B bytes, XOR a mask
abbrev pub padded : ℕ → ℕ → Bytes → Bytes
padded mask block key = under mask (key ++ replicate (block - 32) 0)

-- H(K XOR opad, H(K XOR ipad, text)), with 36 for each byte of ipad and 5C for each of opad
abbrev pub hmac_of : (Bytes → Bytes) → ℕ → Bytes → Bytes → Bytes
hmac_of digest block key text = digest (padded 0x5c block key ++ digest (padded 0x36 block key ++ text))
