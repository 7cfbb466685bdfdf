-- Steps of the loops that compute the definitions. Assumes nothing.
use Rattle.std.proofs.Common.{◌≡◌, ℕ, zero, suc, ◌+◌, ◌-◌, ◌*◌, ◌/◌, ◌%◌, ◌<◌, ◌≤◌, cond, eqb, ◌++◌, get_or, sym, refl, ap, ◌∙◌, ap₂, arith}
use Rattle.std.proofs.lemmas.List.{append-nil, append_assoc}
use Rattle.digests.specs.Strings.{Bytes}
use Rattle.lms.specs.Strings.{Hash, u8str, u16str, u32str, str_to_u32, bytes_at, concat_all, sum_all, coefficient, d_pblc, d_leaf, d_intr}
use Rattle.lms.specs.Lmots.{checksum, checked_hash, chain_steps, chain, message_coefficient, lmots_sign, lmots_candidate}
use Rattle.lms.specs.Lms.{chain_start, climb, lms_candidate}
use Rattle.lms.specs.StringsLaw.{bytes_part, concat_same, coefficient_byte}
use Rattle.lms.specs.LmotsLaw.{steps_add}

pub concat_more : (k : ℕ) (f : ℕ → Bytes) → concat_all (k + 1) f ≡ concat_all k f ++ f k
unfolding concat_all
concat_more k f =
    let e : k + 1 ≡ suc k = omega arith in
    ap (λ (j : ℕ). concat_all j f) e

pub concat_none : (taken : Bytes) (f : ℕ → Bytes) → taken ++ concat_all 0 f ≡ taken
unfolding concat_all
concat_none taken f = append-nil taken

-- one more piece after what a digest has taken
pub concat_after : (taken : Bytes) (k : ℕ) (f : ℕ → Bytes) → (taken ++ concat_all k f) ++ f k ≡ taken ++ concat_all (k + 1) f
concat_after taken k f = append_assoc taken (concat_all k f) (f k) ∙ sym (ap (λ (s : Bytes). taken ++ s) (concat_more k f))

pub sum_more : (k : ℕ) (f : ℕ → ℕ) → sum_all (k + 1) f ≡ sum_all k f + f k
unfolding sum_all
sum_more k f =
    let e : k + 1 ≡ suc k = omega arith in
    ap (λ (j : ℕ). sum_all j f) e

pub sum_small : (k b : ℕ) (f : ℕ → ℕ) → ((i : ℕ) → f i ≤ b) → sum_all k f ≤ b * k
unfolding sum_all
sum_small zero b f l = omega arith
sum_small (suc k) b f l = omega (arith, sum_small k b f l, l k)

module _ (hash : Hash) (id : Bytes) (leaf i : ℕ) where
  -- a chain that is walked from a: the value at a, and one step on
  pub chain_none : (a : ℕ) (t : Bytes) → chain hash id leaf i a a t ≡ t
  unfolding chain chain_steps
  chain_none a t =
      let e : a - a ≡ 0 = omega arith in
      ap (λ (k : ℕ). chain_steps hash id leaf i a k t) e

  pub chain_more : (a b : ℕ) (t : Bytes) → a ≤ b →
      chain hash id leaf i a (b + 1) t ≡ hash (id ++ u32str leaf ++ u16str i ++ u8str b ++ chain hash id leaf i a b t)
  unfolding chain chain_steps
  chain_more a b t l =
      let e : b + 1 - a ≡ b - a + 1 = omega arith in
      let f : a + (b - a) ≡ b = omega arith in
      ap (λ (k : ℕ). chain_steps hash id leaf i a k t) e
      ∙ sym (steps_add hash id leaf i (b - a) 1 a t)
      ∙ ap (λ (j : ℕ). hash (id ++ u32str leaf ++ u16str i ++ u8str j ++ chain_steps hash id leaf i a (b - a) t)) f

module _ (hash : Hash) (id : Bytes) (path : ℕ → Bytes) where
  -- what is left of Algorithm 6a's loop, one step on and at its end
  pub climb_more : (i node : ℕ) (tmp : Bytes) → i < 5 →
      climb hash id path (5 - i) i node tmp
      ≡ climb hash id path (5 - (i + 1)) (i + 1) (node / 2)
      (hash (cond (eqb (node % 2) 1) (id ++ u32str (node / 2) ++ d_intr ++ path i ++ tmp) (id ++ u32str (node / 2) ++ d_intr ++ tmp ++ path i)))
  unfolding climb
  climb_more i node tmp l =
      let e : 5 - i ≡ suc (5 - (i + 1)) = omega arith in
      ap (λ (k : ℕ). climb hash id path k i node tmp) e

  pub climb_all : (i node : ℕ) (tmp : Bytes) → 5 ≤ i → climb hash id path (5 - i) i node tmp ≡ tmp
  unfolding climb
  climb_all i node tmp l =
      let e : 5 - i ≡ 0 = omega arith in
      ap (λ (k : ℕ). climb hash id path k i node tmp) e

pub coefficient_of_byte : (s : Bytes) (i : ℕ) → get_or s i 0 < 256 → coefficient s i 8 ≡ get_or s i 0
coefficient_of_byte s i l = coefficient_byte s i ∙ omega arith

-- the checksum's sum over the first k bytes
abbrev pub gaps_to : ℕ → Bytes → ℕ
gaps_to k s = sum_all k (λ i. 255 - coefficient s i 8)

pub gaps_none : (s : Bytes) → gaps_to 0 s ≡ 0
unfolding sum_all
gaps_none s = refl

pub gaps_more : (k : ℕ) (s : Bytes) → get_or s k 0 < 256 → gaps_to (k + 1) s ≡ gaps_to k s + (255 - get_or s k 0)
gaps_more k s l = sum_more k (λ i. 255 - coefficient s i 8) ∙ ap (λ (b : ℕ). sum_all k (λ i. 255 - coefficient s i 8) + (255 - b)) (coefficient_of_byte s k l)

pub gaps_small : (k : ℕ) (s : Bytes) → gaps_to k s ≤ 255 * k
gaps_small k s = sum_small k 255 (λ i. 255 - coefficient s i 8) (λ i. omega arith)

-- the two bytes of the checksum
pub checksum_is : (s : Bytes) (sum : ℕ) → sum ≡ gaps_to 32 s → u16str sum ≡ checksum s
unfolding checksum
checksum_is s sum e = ap u16str (e ∙ omega arith)

-- the chains of a one-time key, and of a signature by it
abbrev pub whole_chain : Hash → Bytes → Bytes → ℕ → ℕ → Bytes
whole_chain hash id seed leaf i = chain hash id leaf i 0 255 (chain_start hash id seed leaf i)

abbrev pub signed_chain : Hash → Bytes → Bytes → ℕ → Bytes → ℕ → Bytes
signed_chain hash id seed leaf coefficients i = chain hash id leaf i 0 (coefficient coefficients i 8) (chain_start hash id seed leaf i)

-- z[i] of Algorithm 4b, by places of the whole signature
abbrev pub chain_end : Hash → Bytes → ℕ → Bytes → Bytes → ℕ → Bytes
chain_end hash id leaf message signature i =
    chain hash id leaf i (message_coefficient hash id leaf (bytes_at signature 8 32) message i) 255 (bytes_at signature (40 + 32 * i) 32)

pub lmots_candidate_at : (hash : Hash) (id : Bytes) (leaf : ℕ) (message signature : Bytes) →
    lmots_candidate hash id leaf message (bytes_at signature 4 1124) ≡ hash (id ++ u32str leaf ++ d_pblc ++ concat_all 34 (chain_end hash id leaf message signature))
unfolding lmots_candidate
lmots_candidate_at hash id leaf message sig =
    ap (λ (s : Bytes). hash (id ++ u32str leaf ++ d_pblc ++ s))
    (concat_same 34 (λ i. chain hash id leaf i (message_coefficient hash id leaf (bytes_at (bytes_at sig 4 1124) 4 32) message i) 255 (bytes_at (bytes_at sig 4 1124) (4 + 32 * (i + 1)) 32))
    (chain_end hash id leaf message sig) each)
  where
    each : (i : ℕ) → i < 34 →
        chain hash id leaf i (message_coefficient hash id leaf (bytes_at (bytes_at sig 4 1124) 4 32) message i) 255 (bytes_at (bytes_at sig 4 1124) (4 + 32 * (i + 1)) 32)
        ≡ chain_end hash id leaf message sig i
    each i l =
        let e : 4 + (4 + 32 * (i + 1)) ≡ 40 + 32 * i = omega arith in
        ap₂ (λ c t. chain hash id leaf i (message_coefficient hash id leaf c message i) 255 t) (bytes_part sig 4 1124 4 32 (omega arith))
        (bytes_part sig 4 1124 (4 + 32 * (i + 1)) 32 (omega arith) ∙ ap (λ (j : ℕ). bytes_at sig j 32) e)

-- Algorithm 3 by the strings that are written
pub lmots_sign_at : (hash : Hash) (id seed : Bytes) (leaf : ℕ) (randomizer message coefficients : Bytes) → coefficients ≡ checked_hash hash id leaf randomizer message →
    u32str 4 ++ randomizer ++ concat_all 34 (signed_chain hash id seed leaf coefficients) ≡ lmots_sign hash id leaf (chain_start hash id seed leaf) randomizer message
unfolding lmots_sign message_coefficient
lmots_sign_at hash id seed leaf randomizer message coefficients e =
    ap (λ (s : Bytes). u32str 4 ++ randomizer ++ concat_all 34 (signed_chain hash id seed leaf s)) e

-- a chain that a signature goes on with
pub chain_end_at : (hash : Hash) (id : Bytes) (leaf : ℕ) (message signature coefficients : Bytes) (i : ℕ) → coefficients ≡ checked_hash hash id leaf (bytes_at signature 8 32) message → get_or coefficients i 0 < 256 →
    chain hash id leaf i (get_or coefficients i 0) 255 (bytes_at signature (40 + 32 * i) 32) ≡ chain_end hash id leaf message signature i
unfolding message_coefficient
chain_end_at hash id leaf message signature coefficients i e small =
    ap (λ (k : ℕ). chain hash id leaf i k 255 (bytes_at signature (40 + 32 * i) 32)) (sym (coefficient_of_byte coefficients i small) ∙ ap (λ (s : Bytes). coefficient s i 8) e)

-- Algorithm 6a by its two candidates
pub lms_candidate_at : (hash : Hash) (id : Bytes) (leaf : ℕ) (message signature key : Bytes) → leaf ≡ str_to_u32 (bytes_at signature 0 4) → key ≡ lmots_candidate hash id leaf message (bytes_at signature 4 1124) →
    climb hash id (λ i. bytes_at signature (1132 + 32 * i) 32) 5 0 (32 + leaf) (hash (id ++ u32str (32 + leaf) ++ d_leaf ++ key)) ≡ lms_candidate hash id message signature
unfolding lms_candidate
lms_candidate_at hash id leaf message sig key e f =
    let path : ℕ → Bytes = λ i. bytes_at sig (1132 + 32 * i) 32 in
    ap (λ (k : Bytes). climb hash id path 5 0 (32 + leaf) (hash (id ++ u32str (32 + leaf) ++ d_leaf ++ k))) f
    ∙ ap (λ (q : ℕ). climb hash id path 5 0 (32 + q) (hash (id ++ u32str (32 + q) ++ d_leaf ++ lmots_candidate hash id q message (bytes_at sig 4 1124)))) e
