-- A one-time signature leads to the one-time public key. Assumes nothing.
use Rattle.std.proofs.Common.{◌≡◌, ℕ, zero, suc, ◌+◌, ◌-◌, ◌*◌, ◌<◌, ◌≤◌, Bool, true, ◌&&◌, ◌++◌, length, refl, ap, ◌∙◌, ap₂, arith}
use Rattle.std.proofs.lemmas.List.{length-append}
use Rattle.std.proofs.lemmas.Bool.{le-leb, eq-eqb}
use Rattle.digests.specs.Strings.{Bytes}
use Rattle.lms.specs.Strings.{Hash, u8str, u16str, u32str, str_to_u32, bytes_at, concat_all, d_pblc}
use Rattle.lms.specs.Lmots.{checked_hash, lmots_form, chain_steps, chain, message_coefficient, lmots_public, lmots_sign, lmots_candidate}
use Rattle.lms.specs.StringsLaw.{length_u32str, str_to_u32_u32str, bytes_left, bytes_right, bytes_whole, bytes_mid, length_concat, concat_same, bytes_concat, coefficient_small}

pub and_4 : {a b c d : Bool} → a ≡ true → b ≡ true → c ≡ true → d ≡ true → (a && b && c && d) ≡ true
and_4 e₁ e₂ e₃ e₄ = rw (e₁, e₂, e₃, e₄)

module _ (hash : Hash) (id : Bytes) (leaf i : ℕ) where
  -- k steps and l more are k + l steps
  pub steps_add : (k l a : ℕ) (t : Bytes) → chain_steps hash id leaf i (a + k) l (chain_steps hash id leaf i a k t) ≡ chain_steps hash id leaf i a (k + l) t
  unfolding chain_steps
  steps_add zero l a t =
      let e : a + 0 ≡ a = omega arith in
      let f : l ≡ 0 + l = omega arith in
      ap₂ (λ b c. chain_steps hash id leaf i b c t) e f
  steps_add (suc k) l a t =
      let t' : Bytes = hash (id ++ u32str leaf ++ u16str i ++ u8str a ++ t) in
      let e : a + suc k ≡ a + 1 + k = omega arith in
      let f : suc (k + l) ≡ suc k + l = omega arith in
      ap (λ (b : ℕ). chain_steps hash id leaf i b l (chain_steps hash id leaf i (a + 1) k t')) e
      ∙ steps_add k l (a + 1) t'
      ∙ ap (λ (c : ℕ). chain_steps hash id leaf i a c t) f

  -- a chain walked to a and on to b is walked to b
  pub chain_join : (a b : ℕ) (t : Bytes) → a ≤ b → chain hash id leaf i a b (chain hash id leaf i 0 a t) ≡ chain hash id leaf i 0 b t
  unfolding chain
  chain_join a b t l =
      let e : a ≡ 0 + a = omega arith in
      let f : a - 0 ≡ a = omega arith in
      let g : a + (b - a) ≡ b - 0 = omega arith in
      ap₂ (λ c d. chain_steps hash id leaf i c (b - a) (chain_steps hash id leaf i 0 d t)) e f
      ∙ steps_add a (b - a) 0 t
      ∙ ap (λ (c : ℕ). chain_steps hash id leaf i 0 c t) g

  -- a digit has 8 bits
  message_coefficient_small : (randomizer message : Bytes) → message_coefficient hash id leaf randomizer message i ≤ 255
  unfolding message_coefficient
  message_coefficient_small randomizer message = coefficient_small (checked_hash hash id leaf randomizer message) i

module _ (hash : Hash) (sized : (s : Bytes) → length (hash s) ≡ 32) (id : Bytes) (leaf : ℕ) where
  length_steps : (i a k : ℕ) (t : Bytes) → length t ≡ 32 → length (chain_steps hash id leaf i a k t) ≡ 32
  unfolding chain_steps
  length_steps i a zero t e = e
  length_steps i a (suc k) t e =
      length_steps i (a + 1) k (hash (id ++ u32str leaf ++ u16str i ++ u8str a ++ t)) (sized (id ++ u32str leaf ++ u16str i ++ u8str a ++ t))

  pub length_chain : (i a b : ℕ) (t : Bytes) → length t ≡ 32 → length (chain hash id leaf i a b t) ≡ 32
  unfolding chain
  length_chain i a b t e = length_steps i a (b - a) t e

  module _ (x : ℕ → Bytes) (randomizer message : Bytes) (x_sized : (i : ℕ) → length (x i) ≡ 32) (randomizer_sized : length randomizer ≡ 32) where
    y : ℕ → Bytes
    y i = chain hash id leaf i 0 (message_coefficient hash id leaf randomizer message i) (x i)

    length_y : (i : ℕ) → length (y i) ≡ 32
    unfolding y
    length_y i = length_chain i 0 (message_coefficient hash id leaf randomizer message i) (x i) (x_sized i)

    pub length_lmots_sign : length (lmots_sign hash id leaf x randomizer message) ≡ 1124
    unfolding lmots_sign y
    length_lmots_sign = simp (length-append, length_u32str, randomizer_sized, length_concat 34 32 y length_y)

    pub type_of_lmots_sign : bytes_at (lmots_sign hash id leaf x randomizer message) 0 4 ≡ u32str 4
    unfolding lmots_sign y
    type_of_lmots_sign =
        bytes_left (u32str 4 ++ randomizer) (concat_all 34 y) 0 4 (simp (length-append, length_u32str) (omega arith))
        ∙ bytes_left (u32str 4) randomizer 0 4 (simp length_u32str (omega arith))
        ∙ bytes_whole (u32str 4) 4 (length_u32str 4)

    randomizer_of_lmots_sign : bytes_at (lmots_sign hash id leaf x randomizer message) 4 32 ≡ randomizer
    unfolding lmots_sign y
    randomizer_of_lmots_sign = bytes_mid (u32str 4) randomizer (concat_all 34 y) 4 32 (length_u32str 4) randomizer_sized

    y_of_lmots_sign : (i : ℕ) → i < 34 → bytes_at (lmots_sign hash id leaf x randomizer message) (4 + 32 * (i + 1)) 32 ≡ y i
    unfolding lmots_sign y
    y_of_lmots_sign i l =
        let e : 4 + 32 * (i + 1) ≡ 36 + 32 * i = omega arith in
        ap (λ (j : ℕ). bytes_at (u32str 4 ++ randomizer ++ concat_all 34 y) j 32) e
        ∙ bytes_right (u32str 4 ++ randomizer) (concat_all 34 y) 36 (32 * i) 32 (simp (length-append, length_u32str, randomizer_sized))
        ∙ bytes_concat 34 32 y length_y i l

    -- Algorithm 4b walks each chain to its end
    each : (i : ℕ) → i < 34 →
        chain hash id leaf i (message_coefficient hash id leaf (bytes_at (lmots_sign hash id leaf x randomizer message) 4 32) message i) 255 (bytes_at (lmots_sign hash id leaf x randomizer message) (4 + 32 * (i + 1)) 32)
        ≡ chain hash id leaf i 0 255 (x i)
    unfolding y
    each i l =
        ap₂ (λ c t. chain hash id leaf i (message_coefficient hash id leaf c message i) 255 t) randomizer_of_lmots_sign (y_of_lmots_sign i l)
        ∙ chain_join hash id leaf i (message_coefficient hash id leaf randomizer message i) 255 (x i) (message_coefficient_small hash id leaf i randomizer message)

    pub lmots_form_of_sign : lmots_form 4 (lmots_sign hash id leaf x randomizer message) ≡ true
    unfolding lmots_form
    lmots_form_of_sign =
        let e = length_lmots_sign in
        and_4 (le-leb 4 (length (lmots_sign hash id leaf x randomizer message)) (omega arith))
        (eq-eqb (str_to_u32 (bytes_at (lmots_sign hash id leaf x randomizer message) 0 4)) 4 (ap str_to_u32 type_of_lmots_sign ∙ str_to_u32_u32str 4 (omega arith)))
        refl
        (eq-eqb (length (lmots_sign hash id leaf x randomizer message)) 1124 e)

    -- Algorithm 4b on a signature by Algorithm 3 gives Algorithm 1's key
    pub lmots_candidate_of_sign : lmots_candidate hash id leaf message (lmots_sign hash id leaf x randomizer message) ≡ lmots_public hash id leaf x
    unfolding lmots_candidate lmots_public
    lmots_candidate_of_sign =
        ap (λ (z : Bytes). hash (id ++ u32str leaf ++ d_pblc ++ z))
        (concat_same 34 (λ i. chain hash id leaf i (message_coefficient hash id leaf (bytes_at (lmots_sign hash id leaf x randomizer message) 4 32) message i) 255 (bytes_at (lmots_sign hash id leaf x randomizer message) (4 + 32 * (i + 1)) 32))
        (λ i. chain hash id leaf i 0 255 (x i)) each)
