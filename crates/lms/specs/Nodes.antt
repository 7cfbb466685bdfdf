-- The nodes T[1] to T[63] of a tree as a table. Assumes nothing.
use Rattle.std.specs.Prelude.{◌≡◌, ℕ, ◌+◌, ◌-◌, ◌*◌, ◌/◌, ◌^◌, ◌<◌, ◌≤◌, List, [], ◌++◌, slice_index_or, bit_xor}
use Rattle.digests.specs.Strings.{Bytes}
use Rattle.lms.specs.Strings.{Hash, u32str, d_leaf, d_intr}
use Rattle.lms.specs.Lms.{leaf_key, lms_root, path_node}

-- section 5.3: leaves from 2^h on, and below them the hash of the two children
pub record Nodes (hash : Hash) (id seed : Bytes) (node : ℕ → Bytes) : Type 0 where
  pub leaves : (r : ℕ) → 32 ≤ r → r < 64 → node r ≡ hash (id ++ u32str r ++ d_leaf ++ leaf_key hash id seed (r - 32))
  pub inner : (r : ℕ) → 1 ≤ r → r < 32 → node r ≡ hash (id ++ u32str r ++ d_intr ++ node (2 * r) ++ node (2 * r + 1))

-- the root and every path are among them
pub record Tree (hash : Hash) (id seed : Bytes) (node : ℕ → Bytes) : Type 0 where
  pub root : node 1 ≡ lms_root hash id seed
  pub paths : (leaf i : ℕ) → leaf < 32 → i < 5 → node (bit_xor ((32 + leaf) / 2 ^ i) 1) ≡ path_node hash id seed leaf i

abbrev pub NodesMakeTheTree : Type 0
NodesMakeTheTree = (hash : Hash) (id seed : Bytes) (node : ℕ → Bytes) → Nodes hash id seed node → Tree hash id seed node

-- node r of a table
abbrev pub node_at : List Bytes → ℕ → Bytes
node_at nodes r = slice_index_or nodes r []

-- the table holds the leaves below node r
abbrev pub LeavesTo : Hash → Bytes → Bytes → List Bytes → ℕ → Type 0
LeavesTo hash id seed nodes r =
    (k : ℕ) → 32 ≤ k → k < r → node_at nodes k ≡ hash (id ++ u32str k ++ d_leaf ++ leaf_key hash id seed (k - 32))

-- and the inner nodes from node r on
abbrev pub InnerFrom : Hash → Bytes → List Bytes → ℕ → Type 0
InnerFrom hash id nodes r =
    (k : ℕ) → r ≤ k → k < 32 → node_at nodes k ≡ hash (id ++ u32str k ++ d_intr ++ node_at nodes (2 * k) ++ node_at nodes (2 * k + 1))
