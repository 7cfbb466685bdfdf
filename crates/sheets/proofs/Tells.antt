-- What the answers of the calls say, where they are good.
use Rattle.std.proofs.Common.{◌≡◌, ℕ, ◌+◌, ◌-◌, ◌<◌, ◌≤◌, true, false, List, [], length, get_or, set, is_ok, Ok, Err, arith}
use Rattle.std.proofs.lemmas.Bool.Decides.{nat_tests}
use Rattle.answers.specs.declared.Refusal.TheVariants.{SheetFull}
use Rattle.sheets.specs.Table.{Bytes}
use Rattle.sheets.specs.Calls.{total_bytes, with_block, no_block, text_lines, cut_answer, add_answer, rewrite_answer, block_answer}

is_block : (n i : ℕ) → i < n → no_block n (i + 1) ≡ false
is_block n i h = grind (arith, nat_tests)

-- the block of number i + 1 is the one at index i
number_at : (i : ℕ) → (i + 1) - 1 ≡ i
number_at i = omega arith

pub block_ok : (bs : List Bytes) (i : ℕ) (b : Bytes) → i < length bs → get_or bs i [] ≡ b → Ok b ≡ block_answer bs (i + 1)
block_ok bs i b h e = simp (is_block (length bs) i h, number_at, e)

pub block_allows : (bs : List Bytes) (i : ℕ) (b : Bytes) → Ok b ≡ block_answer bs (i + 1) → i < length bs
block_allows bs i b h = grind (arith, nat_tests)

pub cut_allows : (bs : List Bytes) (text : Bytes) → is_ok (cut_answer bs text) ≡ true → (length bs ≡ 0) × (length text ≤ 38912) × (length (text_lines text) ≤ 512)
cut_allows bs text h = grind (arith, nat_tests)

pub add_allows : (bs : List Bytes) (b : Bytes) → is_ok (add_answer bs b) ≡ true → (length bs < 512) × (total_bytes bs + length b ≤ 38912)
add_allows bs b h = grind (arith, nat_tests)

module _ (bs : List Bytes) (i : ℕ) (b : Bytes) where
  pub with_block_at : with_block bs (i + 1) b ≡ set bs i b
  with_block_at = simp number_at

  pub rewrite_allows : is_ok (rewrite_answer bs (i + 1) b) ≡ true → total_bytes (with_block bs (i + 1) b) ≤ 38912
  rewrite_allows h = grind (arith, nat_tests)

  module _ (there : i < length bs) (short : length b ≤ 38912) (total : ℕ) (is-total : total_bytes (with_block bs (i + 1) b) ≡ total) where
    pub rewrite_full : 38912 < total → Err SheetFull ≡ rewrite_answer bs (i + 1) b
    rewrite_full k = let found = is_block (length bs) i there in grind (arith, nat_tests)

    pub rewrite_ok : total ≤ 38912 → Ok total ≡ rewrite_answer bs (i + 1) b
    rewrite_ok k = let found = is_block (length bs) i there in grind (arith, nat_tests)
