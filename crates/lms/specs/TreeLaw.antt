-- The tree: Algorithm 6a's loop over a leaf's path climbs to the root, and a table of the nodes holds root and paths. Assumes nothing.
use Rattle.std.proofs.Common.{◌≡◌, ℕ, zero, suc, ◌+◌, ◌*◌, ◌/◌, ◌%◌, ◌^◌, ◌<◌, ◌≤◌, cond, eqb, ◌⊎◌, ◌++◌, sym, refl, ap, ◌∙◌, ap₂, inl, inr, ⊎_elim, pow-suc, arith, pow_mono}
use native.Mathlib.Decide.{dec_lt}
use native.Mathlib.Nat.{div-div-eq-div-mul}
use lib.Bits.{bit_xor, xor_step, xor_zero_r, differ}
use Rattle.std.proofs.lemmas.Bool.{eq-eqb, ne_eqb, cond-true, cond-false}
use Rattle.digests.specs.Strings.{Bytes}
use Rattle.lms.specs.Strings.{Hash, u32str, d_intr}
use Rattle.lms.specs.Lms.{tree_node, lms_root, path_node, climb}
use Rattle.lms.specs.Nodes.{Nodes, NodesMakeTheTree}

-- the sibling of an odd and of an even node
xor_odd : (r : ℕ) → r % 2 ≡ 1 → bit_xor r 1 ≡ 2 * (r / 2)
xor_odd r e = xor_step r 1 ∙ ap₂ (λ a b. a * 2 + differ b 1) (xor_zero_r (r / 2)) e ∙ omega arith

xor_even : (r : ℕ) → r % 2 ≡ 0 → bit_xor r 1 ≡ 2 * (r / 2) + 1
xor_even r e = xor_step r 1 ∙ ap₂ (λ a b. a * 2 + differ b 1) (xor_zero_r (r / 2)) e ∙ omega arith

halves : (r : ℕ) → (r % 2 ≡ 1) ⊎ (r % 2 ≡ 0)
halves r = elim (dec_lt 0 (r % 2)) [ yes l ↦ inl (omega arith) | no f ↦ inr (omega arith) ]

module _ (hash : Hash) (id seed : Bytes) where
  -- a node from its two children, of which r is one
  parent : (k r : ℕ) →
      hash
      (cond (eqb (r % 2) 1)
      (id ++ u32str (r / 2) ++ d_intr ++ tree_node hash id seed k (bit_xor r 1) ++ tree_node hash id seed k r)
      (id ++ u32str (r / 2) ++ d_intr ++ tree_node hash id seed k r ++ tree_node hash id seed k (bit_xor r 1)))
      ≡ tree_node hash id seed (suc k) (r / 2)
  unfolding tree_node
  parent k r = ⊎_elim odd even (halves r)
    where
      pre : Bytes
      pre = id ++ u32str (r / 2) ++ d_intr

      t : ℕ → Bytes
      t = tree_node hash id seed k

      both : Bytes
      both = hash (pre ++ t (2 * (r / 2)) ++ t (2 * (r / 2) + 1))

      odd : r % 2 ≡ 1 → hash (cond (eqb (r % 2) 1) (pre ++ t (bit_xor r 1) ++ t r) (pre ++ t r ++ t (bit_xor r 1))) ≡ both
      odd e =
          let f : r ≡ 2 * (r / 2) + 1 = omega arith in
          ap hash (cond-true (eqb (r % 2) 1) (pre ++ t (bit_xor r 1) ++ t r) (pre ++ t r ++ t (bit_xor r 1)) (eq-eqb (r % 2) 1 e))
          ∙ ap₂ (λ a b. hash (pre ++ t a ++ t b)) (xor_odd r e) f

      even : r % 2 ≡ 0 → hash (cond (eqb (r % 2) 1) (pre ++ t (bit_xor r 1) ++ t r) (pre ++ t r ++ t (bit_xor r 1))) ≡ both
      even e =
          let f : r ≡ 2 * (r / 2) = omega arith in
          ap hash (cond-false (eqb (r % 2) 1) (pre ++ t (bit_xor r 1) ++ t r) (pre ++ t r ++ t (bit_xor r 1)) (ne_eqb (r % 2) 1 (λ g. omega arith)))
          ∙ ap₂ (λ a b. hash (pre ++ t a ++ t b)) f (xor_even r e)

  -- Algorithm 6a's loop over a leaf's path climbs to the root
  pub climb_path : (path : ℕ → Bytes) (r k i : ℕ) →
      ((j : ℕ) → j < i + k → path j ≡ tree_node hash id seed j (bit_xor (r / 2 ^ j) 1)) →
      climb hash id path k i (r / 2 ^ i) (tree_node hash id seed i (r / 2 ^ i)) ≡ tree_node hash id seed (i + k) (r / 2 ^ (i + k))
  unfolding climb
  climb_path path r zero i e =
      let u : i ≡ i + 0 = omega arith in
      ap (λ (a : ℕ). tree_node hash id seed a (r / 2 ^ a)) u
  climb_path path r (suc k) i e =
      let s : r / 2 ^ i / 2 ≡ r / 2 ^ (i + 1) = div-div-eq-div-mul r (2 ^ i) 2 ∙ ap (λ (j : ℕ). r / j) (sym (pow-suc 2 i) ∙ ap (λ (j : ℕ). 2 ^ j) (omega arith)) in
      let u : suc i ≡ i + 1 = omega arith in
      let v : i + 1 + k ≡ i + suc k = omega arith in
      ap
      (λ (b : Bytes). climb hash id path k (i + 1) (r / 2 ^ i / 2)
      (hash
      (cond (eqb (r / 2 ^ i % 2) 1)
      (id ++ u32str (r / 2 ^ i / 2) ++ d_intr ++ b ++ tree_node hash id seed i (r / 2 ^ i))
      (id ++ u32str (r / 2 ^ i / 2) ++ d_intr ++ tree_node hash id seed i (r / 2 ^ i) ++ b))))
      (e i (omega arith))
      ∙ ap (climb hash id path k (i + 1) (r / 2 ^ i / 2)) (parent i (r / 2 ^ i))
      ∙ ap₂ (λ a b. climb hash id path k (i + 1) a (tree_node hash id seed b a)) s u
      ∙ climb_path path r k (i + 1) (λ j l. e j (omega arith))
      ∙ ap (λ (a : ℕ). tree_node hash id seed a (r / 2 ^ a)) v

module _ (hash : Hash) (id seed : Bytes) (node : ℕ → Bytes) (nodes : Nodes hash id seed node) where
  -- a node on level k, with 2^d nodes in its row
  level : (k d r : ℕ) → k + d ≡ 5 → 2 ^ d ≤ r → r < 2 * 2 ^ d → node r ≡ tree_node hash id seed k r
  unfolding tree_node
  level zero d r e l u =
      let f : d ≡ 5 = omega arith in
      nodes.leaves r (rw f at l) (rw f at u)
  level (suc k) d r e l u =
      let b : 2 ^ d ≤ 16 = pow_mono {i = d} {j = 4} (omega arith) in
      let c : 1 ≤ 2 ^ d = pow_mono {i = 0} {j = d} (omega arith) in
      let p : 2 ^ suc d ≡ 2 * 2 ^ d = omega arith in
      nodes.inner r (omega arith) (omega arith)
      ∙ ap₂ (λ a b. hash (id ++ u32str r ++ d_intr ++ a ++ b)) (level k (suc d) (2 * r) (omega arith) (omega arith) (omega arith)) (level k (suc d) (2 * r + 1) (omega arith) (omega arith) (omega arith))

  -- the sibling of node s on that level
  sibling : (k d s : ℕ) → k + suc d ≡ 5 → 2 ^ suc d ≤ s → s < 2 * 2 ^ suc d → node (bit_xor s 1) ≡ tree_node hash id seed k (bit_xor s 1)
  sibling k d s e l u = ⊎_elim (λ o. at_place (2 * (s / 2)) (xor_odd s o) (omega arith) (omega arith)) (λ o. at_place (2 * (s / 2) + 1) (xor_even s o) (omega arith) (omega arith)) (halves s)
    where
      at_place : (r : ℕ) → bit_xor s 1 ≡ r → 2 ^ suc d ≤ r → r < 2 * 2 ^ suc d → node (bit_xor s 1) ≡ tree_node hash id seed k (bit_xor s 1)
      at_place r f a b = rw f (level k (suc d) r e a b)

  path_at : (leaf i : ℕ) → leaf < 32 → i < 5 → node (bit_xor ((32 + leaf) / 2 ^ i) 1) ≡ path_node hash id seed leaf i
  unfolding path_node
  path_at leaf zero l u = sibling 0 4 ((32 + leaf) / 1) refl (omega arith) (omega arith)
  path_at leaf (suc zero) l u = sibling 1 3 ((32 + leaf) / 2) refl (omega arith) (omega arith)
  path_at leaf (suc (suc zero)) l u = sibling 2 2 ((32 + leaf) / 4) refl (omega arith) (omega arith)
  path_at leaf (suc (suc (suc zero))) l u = sibling 3 1 ((32 + leaf) / 8) refl (omega arith) (omega arith)
  path_at leaf (suc (suc (suc (suc zero)))) l u = sibling 4 0 ((32 + leaf) / 16) refl (omega arith) (omega arith)
  path_at leaf (suc (suc (suc (suc (suc i))))) l u = absurd (omega arith)

pub nodes_make_the_tree : NodesMakeTheTree
unfolding lms_root
nodes_make_the_tree hash id seed node nodes = record { root = level hash id seed node nodes 5 0 1 refl (omega arith) (omega arith); paths = path_at hash id seed node nodes }

pub root_among : (hash : Hash) (id seed : Bytes) (node : ℕ → Bytes) → Nodes hash id seed node → node 1 ≡ lms_root hash id seed
root_among hash id seed node nodes = (nodes_make_the_tree hash id seed node nodes).root
