-- Many-time signatures: section 5 and Appendix A of RFC 8554, over any hash. Assumes nothing.
use Rattle.std.specs.Prelude.{ℕ, zero, suc, ◌+◌, ◌-◌, ◌*◌, ◌/◌, ◌%◌, ◌^◌, Bool, cond, ◌&&◌, ◌++◌, length, ◌==◌, bit_xor, nat_le, nat_lt}
use Rattle.digests.specs.Strings.{Bytes, same}
use Rattle.lms.specs.Strings.{Hash, u8str, u16str, u32str, str_to_u32, bytes_at, concat_all, hash_size, chain_count, node_size, tree_height, lmots_typecode, lms_typecode, d_leaf, d_intr}
use Rattle.lms.specs.Lmots.{lmots_form, lmots_public, lmots_sign, lmots_candidate}

-- section 5.3: the public key of an identifier I and a root T[1]
unfoldable pub public_key : Bytes → Bytes → Bytes
public_key id root = u32str lms_typecode ++ u32str lmots_typecode ++ id ++ root

module _ (hash : Hash) (id seed : Bytes) where
  -- Appendix A: the private key x_q[i], where chain i of a leaf starts
  unfoldable pub chain_start : ℕ → ℕ → Bytes
  chain_start leaf i = hash (id ++ u32str leaf ++ u16str i ++ u8str 0xff ++ seed)

  -- the randomizer C of a leaf
  unfoldable pub leaf_randomizer : ℕ → Bytes
  leaf_randomizer leaf = hash (id ++ u32str leaf ++ u16str 0xfffd ++ u8str 0xff ++ seed)

  -- the one-time public key of a leaf, and its signature to a message
  abbrev pub leaf_key : ℕ → Bytes
  leaf_key leaf = lmots_public hash id leaf (chain_start leaf)

  abbrev pub leaf_signature : ℕ → Bytes → Bytes
  leaf_signature leaf message = lmots_sign hash id leaf (chain_start leaf) (leaf_randomizer leaf) message

  -- section 5.3: T[r], where r is so many levels above the leaves
  unfoldable pub tree_node : ℕ → ℕ → Bytes
  tree_node zero r = hash (id ++ u32str r ++ d_leaf ++ leaf_key (r - 2 ^ tree_height))
  tree_node (suc level) r = hash (id ++ u32str r ++ d_intr ++ tree_node level (2 * r) ++ tree_node level (2 * r + 1))

  -- the root T[1]
  unfoldable pub lms_root : Bytes
  lms_root = tree_node tree_height 1

  -- section 5.4: path[i] of a leaf
  unfoldable pub path_node : ℕ → ℕ → Bytes
  path_node leaf i = tree_node i (bit_xor ((2 ^ tree_height + leaf) / 2 ^ i) 1)

  -- section 5.4.1, Algorithm 5
  unfoldable pub lms_sign : ℕ → Bytes → Bytes
  lms_sign leaf message = u32str leaf ++ leaf_signature leaf message ++ u32str lms_typecode ++ concat_all tree_height (path_node leaf)

-- section 5.4.2, Algorithm 6a, steps 1 and 2: the form of a signature
unfoldable pub lms_form : ℕ → ℕ → Bytes → Bool
lms_form public_type ots_type signature =
    nat_le 8 (length signature)
    && str_to_u32 (bytes_at signature 4 4) == ots_type
    && nat_le (12 + hash_size * (chain_count + 1)) (length signature)
    && str_to_u32 (bytes_at signature (8 + hash_size * (chain_count + 1)) 4) == public_type
    && nat_lt (str_to_u32 (bytes_at signature 0 4)) (2 ^ tree_height)
    && length signature == 12 + hash_size * (chain_count + 1) + node_size * tree_height
    && lmots_form ots_type (bytes_at signature 4 (4 + hash_size * (chain_count + 1)))

module _ (hash : Hash) (id : Bytes) where
  -- Algorithm 6a, step 4: the loop from path[i] on, so many times
  unfoldable pub climb : (ℕ → Bytes) → ℕ → ℕ → ℕ → Bytes → Bytes
  climb path zero i node value = value
  climb path (suc count) i node value =
      climb path count (i + 1) (node / 2)
      (hash
      (cond (node % 2 == 1)
      (id ++ u32str (node / 2) ++ d_intr ++ path i ++ value)
      (id ++ u32str (node / 2) ++ d_intr ++ value ++ path i)))

  -- Algorithm 6a, steps 3 to 5: the candidate Tc for the root
  unfoldable pub lms_candidate : Bytes → Bytes → Bytes
  lms_candidate message signature =
      let leaf : ℕ = str_to_u32 (bytes_at signature 0 4) in
      let key : Bytes = lmots_candidate hash id leaf message (bytes_at signature 4 (4 + hash_size * (chain_count + 1))) in
      climb (λ i. bytes_at signature (12 + hash_size * (chain_count + 1) + node_size * i) node_size) tree_height 0 (2 ^ tree_height + leaf)
      (hash (id ++ u32str (2 ^ tree_height + leaf) ++ d_leaf ++ key))

-- section 5.4.2, Algorithm 6
unfoldable pub lms_accepts : Hash → Bytes → Bytes → Bytes → Bool
lms_accepts hash public message signature =
    nat_le 8 (length public)
    && str_to_u32 (bytes_at public 0 4) == lms_typecode
    && length public == 24 + node_size
    && lms_form (str_to_u32 (bytes_at public 0 4)) (str_to_u32 (bytes_at public 4 4)) signature
    && same (lms_candidate hash (bytes_at public 8 16) message signature) (bytes_at public 24 node_size)

-- yes means that the RFC's verification accepts, and that the leaf is the seal number
unfoldable pub lms_says : Hash → Bytes → ℕ → Bytes → Bytes → Bool
lms_says hash public number text signature = lms_accepts hash public text signature && str_to_u32 (bytes_at signature 0 4) == number
