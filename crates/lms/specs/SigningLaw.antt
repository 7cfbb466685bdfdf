-- Every signature by a leaf is accepted. Assumes nothing.
use Rattle.std.proofs.Common.{◌≡◌, ℕ, zero, suc, ◌+◌, ◌-◌, ◌*◌, ◌/◌, ◌^◌, ◌<◌, Bool, true, ◌&&◌, eqb, ◌++◌, length, take, ap, ◌∙◌, arith}
use lib.Bits.{bit_xor}
use Rattle.std.proofs.lemmas.List.{length-append}
use Rattle.std.proofs.lemmas.Bool.{le-leb, lt-ltb, eq-eqb, and_from}
use Rattle.digests.specs.Strings.{Bytes, same}
use Rattle.lms.specs.Strings.{Hash, u8str, u16str, u32str, str_to_u32, bytes_at, concat_all, d_leaf, d_intr}
use Rattle.lms.specs.Lmots.{lmots_form, lmots_public, lmots_sign, lmots_candidate}
use Rattle.lms.specs.Lms.{chain_start, leaf_randomizer, tree_node, lms_root, public_key, path_node, lms_sign, lms_form, climb, lms_candidate, lms_accepts, lms_says}
use Rattle.lms.specs.Law.{PublicKeysHave56Bytes, SigningIsAccepted}
use Rattle.lms.specs.StringsLaw.{same_equal, length_u32str, str_to_u32_u32str, bytes_left, bytes_right, bytes_whole, bytes_mid, length_concat, bytes_concat}
use Rattle.lms.specs.FormLaw.{length_public_key, accepts_is}
use Rattle.lms.specs.TreeLaw.{climb_path}
use Rattle.lms.specs.LmotsLaw.{length_lmots_sign, type_of_lmots_sign, lmots_form_of_sign, lmots_candidate_of_sign}

and_7 : {a b c d e f g : Bool} → a ≡ true → b ≡ true → c ≡ true → d ≡ true → e ≡ true → f ≡ true → g ≡ true → (a && b && c && d && e && f && g) ≡ true
and_7 e₁ e₂ e₃ e₄ e₅ e₆ e₇ = rw (e₁, e₂, e₃, e₄, e₅, e₆, e₇)

module _ (hash : Hash) (sized : (s : Bytes) → length (hash s) ≡ 32) (id seed : Bytes) where
  length_node : (k r : ℕ) → length (tree_node hash id seed k r) ≡ 32
  unfolding tree_node
  length_node zero r = sized (id ++ u32str r ++ d_leaf ++ lmots_public hash id (r - 32) (chain_start hash id seed (r - 32)))
  length_node (suc k) r = sized (id ++ u32str r ++ d_intr ++ tree_node hash id seed k (2 * r) ++ tree_node hash id seed k (2 * r + 1))

  pub length_x : (leaf i : ℕ) → length (chain_start hash id seed leaf i) ≡ 32
  unfolding chain_start
  length_x leaf i = sized (id ++ u32str leaf ++ u16str i ++ u8str 0xff ++ seed)

  pub length_randomizer : (leaf : ℕ) → length (leaf_randomizer hash id seed leaf) ≡ 32
  unfolding leaf_randomizer
  length_randomizer leaf = sized (id ++ u32str leaf ++ u16str 0xfffd ++ u8str 0xff ++ seed)

  pub length_path : (leaf i : ℕ) → length (path_node hash id seed leaf i) ≡ 32
  unfolding path_node
  length_path leaf i = length_node i (bit_xor ((32 + leaf) / 2 ^ i) 1)

  -- the parts of a signature
  module _ (leaf : ℕ) (message : Bytes) where
    ots : Bytes
    ots = lmots_sign hash id leaf (chain_start hash id seed leaf) (leaf_randomizer hash id seed leaf) message

    length_ots : length ots ≡ 1124
    unfolding ots
    length_ots = length_lmots_sign hash sized id leaf (chain_start hash id seed leaf) (leaf_randomizer hash id seed leaf) message (length_x leaf) (length_randomizer leaf)

    ots_form : lmots_form 4 ots ≡ true
    unfolding ots
    ots_form = lmots_form_of_sign hash sized id leaf (chain_start hash id seed leaf) (leaf_randomizer hash id seed leaf) message (length_x leaf) (length_randomizer leaf)

    ots_candidate : lmots_candidate hash id leaf message ots ≡ lmots_public hash id leaf (chain_start hash id seed leaf)
    unfolding ots
    ots_candidate = lmots_candidate_of_sign hash sized id leaf (chain_start hash id seed leaf) (leaf_randomizer hash id seed leaf) message (length_x leaf) (length_randomizer leaf)

    -- the leaf in the tree
    leaf_node : hash (id ++ u32str (32 + leaf) ++ d_leaf ++ lmots_public hash id leaf (chain_start hash id seed leaf)) ≡ tree_node hash id seed 0 (32 + leaf)
    unfolding tree_node
    leaf_node =
        let e : leaf ≡ 32 + leaf - 32 = omega arith in
        ap (λ (k : ℕ). hash (id ++ u32str (32 + leaf) ++ d_leaf ++ lmots_public hash id k (chain_start hash id seed k))) e

    pub length_sign : length (lms_sign hash id seed leaf message) ≡ 1292
    unfolding lms_sign ots
    length_sign = simp (length-append, length_u32str, length_ots, length_concat 5 32 (path_node hash id seed leaf) (length_path leaf))

    sign_leaf : bytes_at (lms_sign hash id seed leaf message) 0 4 ≡ u32str leaf
    unfolding lms_sign ots
    sign_leaf =
        bytes_left (u32str leaf ++ ots ++ u32str 5) (concat_all 5 (path_node hash id seed leaf)) 0 4 (simp (length-append, length_u32str) (omega arith))
        ∙ bytes_left (u32str leaf ++ ots) (u32str 5) 0 4 (simp (length-append, length_u32str) (omega arith))
        ∙ bytes_left (u32str leaf) ots 0 4 (simp length_u32str (omega arith))
        ∙ bytes_whole (u32str leaf) 4 (length_u32str leaf)

    sign_ots : bytes_at (lms_sign hash id seed leaf message) 4 1124 ≡ ots
    unfolding lms_sign ots
    sign_ots =
        bytes_left (u32str leaf ++ ots ++ u32str 5) (concat_all 5 (path_node hash id seed leaf)) 4 1124 (simp (length-append, length_u32str, length_ots) (omega arith))
        ∙ bytes_mid (u32str leaf) ots (u32str 5) 4 1124 (length_u32str leaf) length_ots

    sign_ots_type : bytes_at (lms_sign hash id seed leaf message) 4 4 ≡ u32str 4
    unfolding lms_sign ots
    sign_ots_type =
        bytes_left (u32str leaf ++ ots ++ u32str 5) (concat_all 5 (path_node hash id seed leaf)) 4 4 (simp (length-append, length_u32str, length_ots) (omega arith))
        ∙ bytes_left (u32str leaf ++ ots) (u32str 5) 4 4 (simp (length-append, length_u32str, length_ots) (omega arith))
        ∙ bytes_right (u32str leaf) ots 4 0 4 (length_u32str leaf)
        ∙ type_of_lmots_sign hash sized id leaf (chain_start hash id seed leaf) (leaf_randomizer hash id seed leaf) message (length_x leaf) (length_randomizer leaf)

    sign_type : bytes_at (lms_sign hash id seed leaf message) 1128 4 ≡ u32str 5
    unfolding lms_sign ots
    sign_type =
        bytes_mid (u32str leaf ++ ots) (u32str 5) (concat_all 5 (path_node hash id seed leaf)) 1128 4 (simp (length-append, length_u32str, length_ots)) (length_u32str 5)

    sign_path : (i : ℕ) → i < 5 → bytes_at (lms_sign hash id seed leaf message) (1132 + 32 * i) 32 ≡ path_node hash id seed leaf i
    unfolding lms_sign ots
    sign_path i l =
        bytes_right (u32str leaf ++ ots ++ u32str 5) (concat_all 5 (path_node hash id seed leaf)) 1132 (32 * i) 32 (simp (length-append, length_u32str, length_ots))
        ∙ bytes_concat 5 32 (path_node hash id seed leaf) (length_path leaf) i l

    module _ (small : leaf < 32) where
      leaf_is : str_to_u32 (bytes_at (lms_sign hash id seed leaf message) 0 4) ≡ leaf
      leaf_is = ap str_to_u32 sign_leaf ∙ str_to_u32_u32str leaf (omega arith)

      form : lms_form 5 4 (lms_sign hash id seed leaf message) ≡ true
      unfolding lms_form
      form =
          let sig : Bytes = lms_sign hash id seed leaf message in
          let e : length sig ≡ 1292 = length_sign in
          and_7 (le-leb 8 (length sig) (omega arith))
          (eq-eqb (str_to_u32 (bytes_at sig 4 4)) 4 (ap str_to_u32 sign_ots_type ∙ str_to_u32_u32str 4 (omega arith)))
          (le-leb 1132 (length sig) (omega arith))
          (eq-eqb (str_to_u32 (bytes_at sig 1128 4)) 5 (ap str_to_u32 sign_type ∙ str_to_u32_u32str 5 (omega arith)))
          (lt-ltb (str_to_u32 (bytes_at sig 0 4)) 32 (omega (arith, leaf_is)))
          (eq-eqb (length sig) 1292 e)
          (ap (lmots_form 4) sign_ots ∙ ots_form)

      candidate : lms_candidate hash id message (lms_sign hash id seed leaf message) ≡ tree_node hash id seed 5 1
      unfolding lms_candidate path_node
      candidate =
          let sig : Bytes = lms_sign hash id seed leaf message in
          let at : ℕ → Bytes = λ i. bytes_at sig (1132 + 32 * i) 32 in
          let e : 32 + leaf ≡ (32 + leaf) / 1 = omega arith in
          let f : (32 + leaf) / 32 ≡ 1 = omega arith in
          ap (λ (k : ℕ). climb hash id at 5 0 (32 + k) (hash (id ++ u32str (32 + k) ++ d_leaf ++ lmots_candidate hash id k message (bytes_at sig 4 1124)))) leaf_is
          ∙ ap (λ (s : Bytes). climb hash id at 5 0 (32 + leaf) (hash (id ++ u32str (32 + leaf) ++ d_leaf ++ s))) (ap (lmots_candidate hash id leaf message) sign_ots ∙ ots_candidate)
          ∙ ap (climb hash id at 5 0 (32 + leaf)) leaf_node
          ∙ ap (λ (r : ℕ). climb hash id at 5 0 r (tree_node hash id seed 0 r)) e
          ∙ climb_path hash id seed at (32 + leaf) 5 0 (λ i l. sign_path i l)
          ∙ ap (tree_node hash id seed 5) f

      module _ (id_sized : length id ≡ 16) where
        pub accepted : lms_accepts hash (public_key id (lms_root hash id seed)) message (lms_sign hash id seed leaf message) ≡ true
        unfolding lms_root
        accepted =
            let sig : Bytes = lms_sign hash id seed leaf message in
            accepts_is hash id (tree_node hash id seed 5 1) id_sized (length_node 5 1) message sig
            ∙ and_from (lms_form 5 4 sig) (same (lms_candidate hash id message sig) (tree_node hash id seed 5 1)) form
            (same_equal (lms_candidate hash id message sig) (tree_node hash id seed 5 1) candidate)

        pub yes_of_leaf : lms_says hash (public_key id (lms_root hash id seed)) leaf message (lms_sign hash id seed leaf message) ≡ true
        unfolding lms_says
        yes_of_leaf = and_from (lms_accepts hash (public_key id (lms_root hash id seed)) message (lms_sign hash id seed leaf message)) (eqb (str_to_u32 (bytes_at (lms_sign hash id seed leaf message) 0 4)) leaf) accepted (eq-eqb (str_to_u32 (bytes_at (lms_sign hash id seed leaf message) 0 4)) leaf leaf_is)

    pub front : take 4 (lms_sign hash id seed leaf message) ≡ u32str leaf
    unfolding bytes_at
    front = sign_leaf

pub public_keys_have_56_bytes : PublicKeysHave56Bytes
unfolding lms_root
public_keys_have_56_bytes hash sized id seed id_sized = length_public_key id (tree_node hash id seed 5 1) id_sized (length_node hash sized id seed 5 1)

pub signing_is_accepted : SigningIsAccepted
signing_is_accepted hash sized id seed id_sized leaf small message =
    record {
      accepted = accepted hash sized id seed leaf message small id_sized;
      yes = yes_of_leaf hash sized id seed leaf message small id_sized;
      long = length_sign hash sized id seed leaf message;
      begins = front hash sized id seed leaf message;
    }
