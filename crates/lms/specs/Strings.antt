-- Byte strings of RFC 8554, sections 3.1 and 4.1, and the numbers of LMS_SHA256_M32_H5 with LMOTS_SHA256_N32_W8. Assumes nothing.
use Rattle.std.specs.Prelude.{ℕ, zero, suc, ◌+◌, ◌-◌, ◌*◌, ◌/◌, ◌%◌, ◌^◌, [], ◌∷◌, ◌++◌, take, drop, slice_index}
use Rattle.digests.specs.Strings.{Bytes}

-- section 4: a hash function
abbrev pub Hash : Type 0
Hash = Bytes → Bytes

-- section 3.1: a number as one, two and four bytes, highest byte first
unfoldable pub u8str : ℕ → Bytes
u8str x = x % 256 ∷ []

unfoldable pub u16str : ℕ → Bytes
u16str x = x / 256 % 256 ∷ x % 256 ∷ []

unfoldable pub u32str : ℕ → Bytes
u32str x = x / 16777216 % 256 ∷ x / 65536 % 256 ∷ x / 256 % 256 ∷ x % 256 ∷ []

-- section 3.1, strTou32: the number that four bytes stand for
unfoldable pub str_to_u32 : Bytes → ℕ
str_to_u32 s = slice_index s 0 * 16777216 + slice_index s 1 * 65536 + slice_index s 2 * 256 + slice_index s 3

-- so many bytes of a string from byte i on, counted from 0
unfoldable pub bytes_at : Bytes → ℕ → ℕ → Bytes
bytes_at s i count = take count (drop i s)

-- f[0] || f[1] || .. || f[k - 1]
unfoldable pub concat_all : ℕ → (ℕ → Bytes) → Bytes
concat_all zero f = []
concat_all (suc k) f = concat_all k f ++ f k

-- f(0) + f(1) + .. + f(k - 1)
unfoldable pub sum_all : ℕ → (ℕ → ℕ) → ℕ
sum_all zero f = 0
sum_all (suc k) f = sum_all k f + f k

-- section 3.1.3, coef: (2^w - 1) AND (byte(S, i * w / 8) >> (8 - (w * (i % (8 / w)) + w)))
unfoldable pub coefficient : Bytes → ℕ → ℕ → ℕ
coefficient s i bits = slice_index s (i * bits / 8) / 2 ^ (8 - (bits * (i % (8 / bits)) + bits)) % 2 ^ bits

-- section 4.1, table 1: n, w, p and ls of LMOTS_SHA256_N32_W8
abbrev pub hash_size : ℕ
hash_size = 32

abbrev pub coefficient_bits : ℕ
coefficient_bits = 8

abbrev pub chain_count : ℕ
chain_count = 34

abbrev pub checksum_shift : ℕ
checksum_shift = 0

-- section 5.1, table 2: m and h of LMS_SHA256_M32_H5
abbrev pub node_size : ℕ
node_size = 32

abbrev pub tree_height : ℕ
tree_height = 5

-- section 3.2: the typecodes of the two
abbrev pub lmots_typecode : ℕ
lmots_typecode = 4

abbrev pub lms_typecode : ℕ
lms_typecode = 5

-- sections 4 and 5: what tells the uses of the hash apart
unfoldable pub d_pblc : Bytes
d_pblc = u16str 0x8080

unfoldable pub d_mesg : Bytes
d_mesg = u16str 0x8181

unfoldable pub d_leaf : Bytes
d_leaf = u16str 0x8282

unfoldable pub d_intr : Bytes
d_intr = u16str 0x8383
