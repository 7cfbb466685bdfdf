-- The work vector as the code holds it. Assumes nothing.
use Rattle.std.specs.Prelude.{ℕ, ◌+◌, ◌%◌, ◌^◌, List, [], ◌∷◌, ◌++◌, bit_xor, slice_index}
use Rattle.digests.specs.Strings.{Bytes}
use Rattle.blake2s.specs.Blake2s.{rotr, word}
use Rattle.blake2s.specs.declared.rounds.Rows.{Rows}

-- the work vector of four rows: v[0] to v[3], v[4] to v[7], and so on
abbrev pub listed : Rows → List ℕ
listed v = v.a ++ (v.b ++ (v.c ++ v.d))

-- the rows of four columns
abbrev pub of_columns : (p q r s : ℕ × ℕ × ℕ × ℕ) → Rows
of_columns p q r s =
    record {
      a = p.0 ∷ q.0 ∷ r.0 ∷ s.0 ∷ [];
      b = p.1 ∷ q.1 ∷ r.1 ∷ s.1 ∷ [];
      c = p.2 ∷ q.2 ∷ r.2 ∷ s.2 ∷ [];
      d = p.3 ∷ q.3 ∷ r.3 ∷ s.3 ∷ [];
    }

-- four lines of G, with the rotations n and k
abbrev pub half_line : ℕ → ℕ → ℕ → ℕ → ℕ → ℕ → ℕ → ℕ × ℕ × ℕ × ℕ
half_line n k a b c d x =
    let a1 = ((a + b) % 2 ^ 32 + x) % 2 ^ 32 in
    let d1 = rotr (bit_xor d a1) n in
    let c1 = (c + d1) % 2 ^ 32 in
    let b1 = rotr (bit_xor b c1) k in
    (a1, b1, c1, d1)

-- these at column i
abbrev half_column : ℕ → ℕ → Rows → List ℕ → ℕ → ℕ × ℕ × ℕ × ℕ
half_column n k v x i = half_line n k (slice_index v.a i) (slice_index v.b i) (slice_index v.c i) (slice_index v.d i) (slice_index x i)

-- and at each column
abbrev pub half_mixed : ℕ → ℕ → Rows → List ℕ → Rows
half_mixed n k v x = of_columns (half_column n k v x 0) (half_column n k v x 1) (half_column n k v x 2) (half_column n k v x 3)

-- every other message word from the k-th on, in the order s
abbrev pub scheduled_words : Bytes → List ℕ → ℕ → List ℕ
scheduled_words block s k =
    word block (slice_index s k) ∷ word block (slice_index s (k + 2)) ∷ word block (slice_index s (k + 4)) ∷ word block (slice_index s (k + 6)) ∷ []

-- the diagonals as columns
abbrev pub slanted : Rows → Rows
slanted v =
    record {
      a = v.a;
      b = slice_index v.b 1 ∷ slice_index v.b 2 ∷ slice_index v.b 3 ∷ slice_index v.b 0 ∷ [];
      c = slice_index v.c 2 ∷ slice_index v.c 3 ∷ slice_index v.c 0 ∷ slice_index v.c 1 ∷ [];
      d = slice_index v.d 3 ∷ slice_index v.d 0 ∷ slice_index v.d 1 ∷ slice_index v.d 2 ∷ [];
    }
