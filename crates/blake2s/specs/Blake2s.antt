-- BLAKE2s of RFC 7693 with no key and 32 answer bytes; the numbers in the comments are the RFC's sections. Assumes nothing.
use Rattle.std.specs.Prelude.{ℕ, zero, suc, ◌+◌, ◌-◌, ◌*◌, ◌/◌, ◌%◌, ◌^◌, Bool, true, false, cond, List, [], ◌∷◌, ◌++◌, map, length, take, drop, replicate, bit_or, bit_xor, slice_index, slice_set}
use Rattle.std.specs.Simd.Lanes.{fold_l}
use Rattle.std.specs.List.{flat_map}
use Rattle.digests.specs.Strings.{Bytes}

-- 2.1: a word is a number below 2 ^ 32

-- 2.3: x >>> n
abbrev pub rotr : ℕ → ℕ → ℕ
rotr x n = bit_or (x / 2 ^ n) ((x * 2 ^ (32 - n)) % 2 ^ 32)

-- 2.4: word i of a string, its lowest byte first, and the four bytes of a word
abbrev pub word : Bytes → ℕ → ℕ
word bs i = slice_index bs (4 * i) + slice_index bs (4 * i + 1) * 256 + slice_index bs (4 * i + 2) * 65536 + slice_index bs (4 * i + 3) * 16777216

abbrev pub bytes_of : ℕ → Bytes
bytes_of x = (x % 256) ∷ (x / 256 % 256) ∷ (x / 65536 % 256) ∷ (x / 16777216 % 256) ∷ []

-- 2.6
abbrev pub iv : List ℕ
iv = 0x6a09e667 ∷ 0xbb67ae85 ∷ 0x3c6ef372 ∷ 0xa54ff53a ∷ 0x510e527f ∷ 0x9b05688c ∷ 0x1f83d9ab ∷ 0x5be0cd19 ∷ []

-- 2.7
abbrev pub sigma : List (List ℕ)
sigma =
    (0 ∷ 1 ∷ 2 ∷ 3 ∷ 4 ∷ 5 ∷ 6 ∷ 7 ∷ 8 ∷ 9 ∷ 10 ∷ 11 ∷ 12 ∷ 13 ∷ 14 ∷ 15 ∷ [])
    ∷ (14 ∷ 10 ∷ 4 ∷ 8 ∷ 9 ∷ 15 ∷ 13 ∷ 6 ∷ 1 ∷ 12 ∷ 0 ∷ 2 ∷ 11 ∷ 7 ∷ 5 ∷ 3 ∷ [])
    ∷ (11 ∷ 8 ∷ 12 ∷ 0 ∷ 5 ∷ 2 ∷ 15 ∷ 13 ∷ 10 ∷ 14 ∷ 3 ∷ 6 ∷ 7 ∷ 1 ∷ 9 ∷ 4 ∷ [])
    ∷ (7 ∷ 9 ∷ 3 ∷ 1 ∷ 13 ∷ 12 ∷ 11 ∷ 14 ∷ 2 ∷ 6 ∷ 5 ∷ 10 ∷ 4 ∷ 0 ∷ 15 ∷ 8 ∷ [])
    ∷ (9 ∷ 0 ∷ 5 ∷ 7 ∷ 2 ∷ 4 ∷ 10 ∷ 15 ∷ 14 ∷ 1 ∷ 11 ∷ 12 ∷ 6 ∷ 8 ∷ 3 ∷ 13 ∷ [])
    ∷ (2 ∷ 12 ∷ 6 ∷ 10 ∷ 0 ∷ 11 ∷ 8 ∷ 3 ∷ 4 ∷ 13 ∷ 7 ∷ 5 ∷ 15 ∷ 14 ∷ 1 ∷ 9 ∷ [])
    ∷ (12 ∷ 5 ∷ 1 ∷ 15 ∷ 14 ∷ 13 ∷ 4 ∷ 10 ∷ 0 ∷ 7 ∷ 6 ∷ 3 ∷ 9 ∷ 2 ∷ 8 ∷ 11 ∷ [])
    ∷ (13 ∷ 11 ∷ 7 ∷ 14 ∷ 12 ∷ 1 ∷ 3 ∷ 9 ∷ 5 ∷ 0 ∷ 15 ∷ 4 ∷ 8 ∷ 6 ∷ 2 ∷ 10 ∷ [])
    ∷ (6 ∷ 15 ∷ 14 ∷ 9 ∷ 11 ∷ 3 ∷ 0 ∷ 8 ∷ 12 ∷ 2 ∷ 13 ∷ 7 ∷ 1 ∷ 4 ∷ 10 ∷ 5 ∷ [])
    ∷ (10 ∷ 2 ∷ 8 ∷ 4 ∷ 7 ∷ 6 ∷ 1 ∷ 5 ∷ 15 ∷ 11 ∷ 9 ∷ 14 ∷ 3 ∷ 12 ∷ 13 ∷ 0 ∷ [])
    ∷ []

-- 3.1: what G makes of v[a], v[b], v[c] and v[d], line by line, with the rotations 16, 12, 8 and 7
unfoldable pub mixed : ℕ → ℕ → ℕ → ℕ → ℕ → ℕ → ℕ × ℕ × ℕ × ℕ
mixed a b c d x y =
    let a1 = (a + b + x) % 2 ^ 32 in
    let d1 = rotr (bit_xor d a1) 16 in
    let c1 = (c + d1) % 2 ^ 32 in
    let b1 = rotr (bit_xor b c1) 12 in
    let a2 = (a1 + b1 + y) % 2 ^ 32 in
    let d2 = rotr (bit_xor d1 a2) 8 in
    let c2 = (c1 + d2) % 2 ^ 32 in
    let b2 = rotr (bit_xor b1 c2) 7 in
    (a2, b2, c2, d2)

-- 3.1: G, which writes them back
abbrev pub mix : List ℕ → ℕ → ℕ → ℕ → ℕ → ℕ → ℕ → List ℕ
mix v a b c d x y =
    let n = mixed (slice_index v a) (slice_index v b) (slice_index v c) (slice_index v d) x y in
    slice_set (slice_set (slice_set (slice_set v a n.0) b n.1) c n.2) d n.3

-- 3.2: one round, with a row s of sigma
unfoldable pub round : Bytes → List ℕ → List ℕ → List ℕ
round block v s =
    let m : ℕ → ℕ = λ i. word block (slice_index s i) in
    let v1 = mix v 0 4 8 12 (m 0) (m 1) in
    let v2 = mix v1 1 5 9 13 (m 2) (m 3) in
    let v3 = mix v2 2 6 10 14 (m 4) (m 5) in
    let v4 = mix v3 3 7 11 15 (m 6) (m 7) in
    let v5 = mix v4 0 5 10 15 (m 8) (m 9) in
    let v6 = mix v5 1 6 11 12 (m 10) (m 11) in
    let v7 = mix v6 2 7 8 13 (m 12) (m 13) in
    mix v7 3 4 9 14 (m 14) (m 15)

-- 3.2: the work vector before the rounds
abbrev pub work : List ℕ → ℕ → Bool → List ℕ
work h t last =
    let v = h ++ iv in
    let v1 = slice_set v 12 (bit_xor (slice_index v 12) (t % 2 ^ 32)) in
    let v2 = slice_set v1 13 (bit_xor (slice_index v1 13) (t / 2 ^ 32 % 2 ^ 32)) in
    cond last (slice_set v2 14 (bit_xor (slice_index v2 14) 0xffffffff)) v2

-- 3.2: the chaining value after the rounds
abbrev pub fed : List ℕ → List ℕ → List ℕ
fed h v = map (λ i. bit_xor (bit_xor (slice_index h i) (slice_index v i)) (slice_index v (i + 8))) (0 ∷ 1 ∷ 2 ∷ 3 ∷ 4 ∷ 5 ∷ 6 ∷ 7 ∷ [])

-- 3.2: F
unfoldable pub compressed : List ℕ → Bytes → ℕ → Bool → List ℕ
compressed h block t last = fed h (fold_l (round block) (work h t last) sigma)

-- 3.3: the first chaining value: no key, and 32 answer bytes
abbrev pub first : List ℕ
first = slice_set iv 0 (bit_xor 0x6a09e667 0x01010020)

-- block i of a message
abbrev pub block_at : Bytes → ℕ → Bytes
block_at bs i = take 64 (drop (64 * i) bs)

-- 3.3: the chaining value after the first n blocks of a message, none of them its last; the counter has 64 bits
unfoldable pub chained : Bytes → ℕ → List ℕ
chained bs zero = first
chained bs (suc n) = compressed (chained bs n) (block_at bs n) (64 * (n + 1) % 2 ^ 64) false

-- a string filled up with 0 to a block
abbrev pub filled : Bytes → Bytes
filled bs = bs ++ replicate (64 - length bs) 0

-- 3.3: the last block is a full one, a part of one, or, of an empty message, empty
unfoldable pub blake2s : Bytes → Bytes
blake2s bs =
    let n = (length bs - 1) / 64 in
    flat_map bytes_of (compressed (chained bs n) (filled (block_at bs n)) (length bs % 2 ^ 64) true)
