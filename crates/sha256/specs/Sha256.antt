-- SHA-256 of FIPS 180-4. Words are numbers below 2^32. Assumes nothing.
use Rattle.std.specs.Prelude.{ℕ, zero, suc, ◌+◌, ◌-◌, ◌*◌, ◌/◌, ◌%◌, ◌^◌, List, [], ◌∷◌, ◌++◌, length, take, drop, replicate, bit_and, bit_or, bit_xor, slice_index}
use Rattle.digests.specs.Strings.{Bytes}
use Rattle.sha256.specs.declared.state.State.{State}

-- 3.2, operations on words: addition modulo 2^32, rotation and shift to the right, complement
abbrev pub plus : ℕ → ℕ → ℕ
plus x y = (x + y) % 2 ^ 32

abbrev pub rotr : ℕ → ℕ → ℕ
rotr n x = bit_or (x / 2 ^ n) ((x * 2 ^ (32 - n)) % 2 ^ 32)

abbrev pub shr : ℕ → ℕ → ℕ
shr n x = x / 2 ^ n

abbrev pub complement : ℕ → ℕ
complement x = 2 ^ 32 - 1 - x

-- 4.1.2, functions
abbrev pub Ch : ℕ → ℕ → ℕ → ℕ
Ch x y z = bit_xor (bit_and x y) (bit_and (complement x) z)

abbrev pub Maj : ℕ → ℕ → ℕ → ℕ
Maj x y z = bit_xor (bit_xor (bit_and x y) (bit_and x z)) (bit_and y z)

abbrev pub Σ0 : ℕ → ℕ
Σ0 x = bit_xor (bit_xor (rotr 2 x) (rotr 13 x)) (rotr 22 x)

abbrev pub Σ1 : ℕ → ℕ
Σ1 x = bit_xor (bit_xor (rotr 6 x) (rotr 11 x)) (rotr 25 x)

unfoldable pub σ0 : ℕ → ℕ
σ0 x = bit_xor (bit_xor (rotr 7 x) (rotr 18 x)) (shr 3 x)

unfoldable pub σ1 : ℕ → ℕ
σ1 x = bit_xor (bit_xor (rotr 17 x) (rotr 19 x)) (shr 10 x)

-- 4.2.2, constants, in four rows of sixteen
abbrev pub K0 : List ℕ
K0 = 0x428a2f98 ∷ 0x71374491 ∷ 0xb5c0fbcf ∷ 0xe9b5dba5 ∷ 0x3956c25b ∷ 0x59f111f1 ∷ 0x923f82a4 ∷ 0xab1c5ed5 ∷ 0xd807aa98 ∷ 0x12835b01 ∷ 0x243185be ∷ 0x550c7dc3 ∷ 0x72be5d74 ∷ 0x80deb1fe ∷ 0x9bdc06a7 ∷ 0xc19bf174 ∷ []

abbrev pub K1 : List ℕ
K1 = 0xe49b69c1 ∷ 0xefbe4786 ∷ 0x0fc19dc6 ∷ 0x240ca1cc ∷ 0x2de92c6f ∷ 0x4a7484aa ∷ 0x5cb0a9dc ∷ 0x76f988da ∷ 0x983e5152 ∷ 0xa831c66d ∷ 0xb00327c8 ∷ 0xbf597fc7 ∷ 0xc6e00bf3 ∷ 0xd5a79147 ∷ 0x06ca6351 ∷ 0x14292967 ∷ []

abbrev pub K2 : List ℕ
K2 = 0x27b70a85 ∷ 0x2e1b2138 ∷ 0x4d2c6dfc ∷ 0x53380d13 ∷ 0x650a7354 ∷ 0x766a0abb ∷ 0x81c2c92e ∷ 0x92722c85 ∷ 0xa2bfe8a1 ∷ 0xa81a664b ∷ 0xc24b8b70 ∷ 0xc76c51a3 ∷ 0xd192e819 ∷ 0xd6990624 ∷ 0xf40e3585 ∷ 0x106aa070 ∷ []

abbrev pub K3 : List ℕ
K3 = 0x19a4c116 ∷ 0x1e376c08 ∷ 0x2748774c ∷ 0x34b0bcb5 ∷ 0x391c0cb3 ∷ 0x4ed8aa4a ∷ 0x5b9cca4f ∷ 0x682e6ff3 ∷ 0x748f82ee ∷ 0x78a5636f ∷ 0x84c87814 ∷ 0x8cc70208 ∷ 0x90befffa ∷ 0xa4506ceb ∷ 0xbef9a3f7 ∷ 0xc67178f2 ∷ []

abbrev pub K : List ℕ
K = K0 ++ (K1 ++ (K2 ++ K3))

-- 5.3.3, the initial hash value
abbrev pub initial : State
initial = record { a = 0x6a09e667; b = 0xbb67ae85; c = 0x3c6ef372; d = 0xa54ff53a; e = 0x510e527f; f = 0x9b05688c; g = 0x1f83d9ab; h = 0x5be0cd19 }

-- 5.1.1, padding of a message of n bytes: a one bit, zeros to 8 bytes before the end of a block, and the length in bits. The standard stops at 2^64 bits; from there on the length counts modulo 2^64.
abbrev pub u64_bytes : ℕ → Bytes
u64_bytes n = n / 2 ^ 56 % 256 ∷ n / 2 ^ 48 % 256 ∷ n / 2 ^ 40 % 256 ∷ n / 2 ^ 32 % 256 ∷ n / 2 ^ 24 % 256 ∷ n / 2 ^ 16 % 256 ∷ n / 2 ^ 8 % 256 ∷ n % 256 ∷ []

-- of the 64 bytes of a block, 1 + 8 are taken, so that 55 - n zeros are left, modulo 64; 119 is 55 + 64
unfoldable pub padding : ℕ → Bytes
padding n = 0x80 ∷ (replicate ((119 - n % 64) % 64) 0 ++ u64_bytes (8 * n % 2 ^ 64))

-- 5.2.1, the words of a block, highest byte first
abbrev pub word_at : Bytes → ℕ → ℕ
word_at bs i = slice_index bs i * 2 ^ 24 + slice_index bs (i + 1) * 2 ^ 16 + slice_index bs (i + 2) * 2 ^ 8 + slice_index bs (i + 3)

abbrev pub words_from : ℕ → ℕ → Bytes → List ℕ
words_from zero i bs = []
words_from (suc n) i bs = word_at bs i ∷ words_from n (i + 4) bs

unfoldable pub words : Bytes → List ℕ
words block = words_from 16 0 block

-- 6.2.2, step 1, the message schedule: to the sixteen words of a block 48 more are added, each from those before it
abbrev pub next_word : List ℕ → ℕ
next_word ws =
    let t = length ws in
    (σ1 (slice_index ws (t - 2)) + slice_index ws (t - 7) + σ0 (slice_index ws (t - 15)) + slice_index ws (t - 16)) % 2 ^ 32

unfoldable pub extended : ℕ → List ℕ → List ℕ
extended zero ws = ws
extended (suc n) ws = extended n (ws ++ next_word ws ∷ [])

unfoldable pub schedule : Bytes → List ℕ
schedule block = extended 48 (words block)

-- 6.2.2, step 3, one round with a constant and a word
unfoldable pub round_of : State → ℕ → ℕ → State
round_of s k w =
    let T1 = (s.h + Σ1 s.e + Ch s.e s.f s.g + k + w) % 2 ^ 32 in
    let T2 = (Σ0 s.a + Maj s.a s.b s.c) % 2 ^ 32 in
    record { a = plus T1 T2; b = s.a; c = s.b; d = s.c; e = plus s.d T1; f = s.e; g = s.f; h = s.g }

unfoldable pub rounds : List ℕ → List ℕ → State → State
rounds [] ws s = s
rounds (k ∷ ks) [] s = s
rounds (k ∷ ks) (w ∷ ws) s = rounds ks ws (round_of s k w)

-- 6.2.2, step 4, the intermediate hash value
abbrev pub added : State → State → State
added s t =
    record {
      a = plus s.a t.a;
      b = plus s.b t.b;
      c = plus s.c t.c;
      d = plus s.d t.d;
      e = plus s.e t.e;
      f = plus s.f t.f;
      g = plus s.g t.g;
      h = plus s.h t.h;
    }

unfoldable pub compressed : State → Bytes → State
compressed s block = added (rounds K (schedule block) s) s

-- the hash value after some blocks
unfoldable pub hashed : ℕ → Bytes → State → State
hashed zero bs s = s
hashed (suc n) bs s = hashed n (drop 64 bs) (compressed s (take 64 bs))

-- the message digest: the words of the last hash value, highest byte first
abbrev pub u32_bytes : ℕ → Bytes
u32_bytes x = x / 2 ^ 24 % 256 ∷ x / 2 ^ 16 % 256 ∷ x / 2 ^ 8 % 256 ∷ x % 256 ∷ []

unfoldable pub state_bytes : State → Bytes
state_bytes s =
    u32_bytes s.a ++ (u32_bytes s.b ++ (u32_bytes s.c ++ (u32_bytes s.d ++ (u32_bytes s.e ++ (u32_bytes s.f ++ (u32_bytes s.g ++ u32_bytes s.h))))))

unfoldable pub sha256_of : Bytes → Bytes
sha256_of message =
    let padded = message ++ padding (length message) in
    state_bytes (hashed (length padded / 64) padded initial)
