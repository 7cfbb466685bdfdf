-- One-time signatures: section 4 of RFC 8554, over any hash. `id` is the key pair's identifier I, `leaf` its number q. Assumes nothing.
use Rattle.std.specs.Prelude.{ℕ, zero, suc, ◌+◌, ◌-◌, ◌*◌, ◌/◌, ◌^◌, Bool, ◌&&◌, ◌++◌, length, ◌==◌, nat_le}
use Rattle.digests.specs.Strings.{Bytes}
use Rattle.lms.specs.Strings.{Hash, u8str, u16str, u32str, str_to_u32, bytes_at, concat_all, sum_all, coefficient, hash_size, coefficient_bits, chain_count, checksum_shift, lmots_typecode, d_pblc, d_mesg}

-- section 4.4, Algorithm 2, Cksm
unfoldable pub checksum : Bytes → Bytes
checksum s = u16str (sum_all (hash_size * 8 / coefficient_bits) (λ i. 2 ^ coefficient_bits - 1 - coefficient s i coefficient_bits) * 2 ^ checksum_shift)

-- section 4.6, Algorithm 4b, steps 1 and 2: the form of a signature
unfoldable pub lmots_form : ℕ → Bytes → Bool
lmots_form public_type signature =
    nat_le 4 (length signature)
    && str_to_u32 (bytes_at signature 0 4) == public_type
    && public_type == lmots_typecode
    && length signature == 4 + hash_size * (chain_count + 1)

module _ (hash : Hash) (id : Bytes) (leaf : ℕ) where
  -- so many steps of chain i, the first with the number `from`
  unfoldable pub chain_steps : ℕ → ℕ → ℕ → Bytes → Bytes
  chain_steps i from zero value = value
  chain_steps i from (suc count) value = chain_steps i (from + 1) count (hash (id ++ u32str leaf ++ u16str i ++ u8str from ++ value))

  -- for (j = from; j < to; j = j + 1) tmp = H(I || u32str(q) || u16str(i) || u8str(j) || tmp)
  unfoldable pub chain : ℕ → ℕ → ℕ → Bytes → Bytes
  chain i from to value = chain_steps i from (to - from) value

  -- section 4.3, Algorithm 1: the public key K of the private key x[0], .. , x[p - 1]
  unfoldable pub lmots_public : (ℕ → Bytes) → Bytes
  lmots_public x = hash (id ++ u32str leaf ++ d_pblc ++ concat_all chain_count (λ i. chain i 0 (2 ^ coefficient_bits - 1) (x i)))

  -- Q || Cksm(Q), where Q is the hash of a message
  unfoldable pub checked_hash : Bytes → Bytes → Bytes
  checked_hash randomizer message =
      let q : Bytes = hash (id ++ u32str leaf ++ d_mesg ++ randomizer ++ message) in
      q ++ checksum q

  -- how far chain i goes in the signature to a message
  unfoldable pub message_coefficient : Bytes → Bytes → ℕ → ℕ
  message_coefficient randomizer message i = coefficient (checked_hash randomizer message) i coefficient_bits

  -- section 4.5, Algorithm 3
  unfoldable pub lmots_sign : (ℕ → Bytes) → Bytes → Bytes → Bytes
  lmots_sign x randomizer message =
      u32str lmots_typecode ++ randomizer ++ concat_all chain_count (λ i. chain i 0 (message_coefficient randomizer message i) (x i))

  -- section 4.6, Algorithm 4b, step 3: the candidate Kc for the public key
  unfoldable pub lmots_candidate : Bytes → Bytes → Bytes
  lmots_candidate message signature =
      let randomizer : Bytes = bytes_at signature 4 hash_size in
      hash
      (id ++ u32str leaf ++ d_pblc
      ++ concat_all chain_count (λ i. chain i (message_coefficient randomizer message i) (2 ^ coefficient_bits - 1) (bytes_at signature (4 + hash_size * (i + 1)) hash_size)))
