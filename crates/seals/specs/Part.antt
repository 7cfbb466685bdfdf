-- The bytes of a seal part: how they are written, and how they are read. Assumes nothing.
use Rattle.std.specs.Prelude.{ℕ, zero, suc, ◌+◌, ◌-◌, ◌*◌, ◌/◌, ◌%◌, Bool, ◌&&◌, List, [], ◌∷◌, ◌++◌, length, take, drop, ◌==◌, nat_le, nat_lt, slice_index}
use Rattle.digests.specs.Strings.{Bytes}
use Rattle.seals.specs.Images.{two_bytes, row_image, whole_image}
use Rattle.seals.specs.Scheme.{Scheme}

-- a number below 2^32, highest byte first
abbrev pub four_bytes : ℕ → Bytes
four_bytes x = two_bytes (x / 65536) ++ two_bytes (x % 65536)

-- the digests of so many rows, the first of them `from`
unfoldable pub digests_of_rows : Scheme → List Bytes → ℕ → ℕ → Bytes
digests_of_rows s bs from zero = []
digests_of_rows s bs from (suc count) = s.digest (row_image s.family.holds from bs) ++ digests_of_rows s bs (suc from) count

-- the first 16 bytes: n; family kind, q, k; digest kind, sealer kind, 0; d, t, and the seal number
unfoldable pub seal_head : Scheme → ℕ → ℕ → Bytes
seal_head s sealer_kind number =
    two_bytes s.family.blocks
    ++ ((s.family.kind ∷ (s.family.q ∷ (s.family.k ∷ (s.digest_kind ∷ (sealer_kind ∷ (0 ∷ []))))))
    ++ (two_bytes s.family.strength ++ (two_bytes s.family.rows ++ four_bytes number)))

-- the text signed: the head, the digests of all rows, and that of the whole
unfoldable pub text_to_sign : Scheme → ℕ → ℕ → List Bytes → Bytes
text_to_sign s sealer_kind number bs = seal_head s sealer_kind number ++ (digests_of_rows s bs 1 s.family.rows ++ s.digest (whole_image bs))

-- the text, the signature's length and the signature
unfoldable pub seal_part : Scheme → ℕ → ℕ → List Bytes → Bytes → Bytes
seal_part s sealer_kind number bs signature = text_to_sign s sealer_kind number bs ++ (two_bytes (length signature) ++ signature)

-- the seal part that a sealer of this kind signs
abbrev pub signed_part : Scheme → ℕ → (Bytes → Bytes) → ℕ → List Bytes → Bytes
signed_part s sealer_kind sign number bs = seal_part s sealer_kind number bs (sign (text_to_sign s sealer_kind number bs))

-- the two bytes at a place, as a number
unfoldable pub word : Bytes → ℕ → ℕ
word b p = slice_index b p * 256 + slice_index b (p + 1)

-- n, d and t of a seal part
abbrev pub part_blocks : Bytes → ℕ
part_blocks b = word b 0

abbrev pub part_strength : Bytes → ℕ
part_strength b = word b 8

abbrev pub part_rows : Bytes → ℕ
part_rows b = word b 10

-- its family's kind, q and k
abbrev pub part_family_kind : Bytes → ℕ
part_family_kind b = slice_index b 2

abbrev pub part_q : Bytes → ℕ
part_q b = slice_index b 3

abbrev pub part_k : Bytes → ℕ
part_k b = slice_index b 4

-- its digest kind and sealer kind
abbrev pub part_digest_kind : Bytes → ℕ
part_digest_kind b = slice_index b 5

abbrev pub part_sealer_kind : Bytes → ℕ
part_sealer_kind b = slice_index b 6

-- where its text ends
abbrev pub text_length : Bytes → ℕ
text_length b = 48 + 32 * part_rows b

-- 1 ≤ x ≤ 512
unfoldable pub to_512 : ℕ → Bool
to_512 x = nat_le 1 x && nat_le x 512

-- n, t and d from 1 to 512, three kinds that are not 0, a 0 behind them, and the length that t and the signature's length make
unfoldable pub is_seal_part : Bytes → Bool
is_seal_part b =
    to_512 (part_blocks b) && (to_512 (part_rows b) && (to_512 (part_strength b)
    && (nat_lt 0 (part_family_kind b) && (nat_lt 0 (part_digest_kind b) && (nat_lt 0 (part_sealer_kind b) && (slice_index b 7 == 0
    && length b == 50 + (32 * part_rows b + word b (text_length b))))))))

-- the text that is signed
unfoldable pub signed_text : Bytes → Bytes
signed_text b = take (text_length b) b

-- the signature, behind the text and its own length
unfoldable pub signature_of : Bytes → Bytes
signature_of b = drop (text_length b + 2) b

-- the seal number, four bytes
unfoldable pub seal_number : Bytes → ℕ
seal_number b = word b 12 * 65536 + word b 14

-- the digest that was sealed for row i
unfoldable pub row_digest : Bytes → ℕ → Bytes
row_digest b i = take 32 (drop (16 + 32 * (i - 1)) b)

-- the digest that was sealed for the whole
unfoldable pub whole_digest : Bytes → Bytes
whole_digest b = take 32 (drop (16 + 32 * part_rows b) b)
