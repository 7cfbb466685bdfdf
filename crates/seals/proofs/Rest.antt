-- The other blocks of a row, one after another, framed.
use Rattle.std.specs.Prelude.{◌≡◌, ℕ, suc, ◌+◌, ◌-◌, ◌*◌, ◌≤◌, Bool, true, false, cond, not, ◌&&◌, List, [], ◌∷◌, ◌++◌, length, ◌==◌, refl}
use Rattle.std.proofs.Common.{ap, ◌∙◌, arith, get_or, length-append}
use Rattle.std.proofs.lemmas.Bool.{and_parts, eqb-true, eq-eqb, ne_eqb}
use Rattle.digests.specs.Strings.{Bytes}
use Rattle.families.specs.Numbers.{numbers, keep_where}
use Rattle.families.specs.Shape.{Shape, held_after, row_list}
use Rattle.sheets.specs.declared.sheet.Sheet.{Sheet}
use Rattle.sheets.specs.Blocks.{blocks_of}
use Rattle.sheets.specs.Calls.{total_bytes, block_at}
use Rattle.sheets.proofs.Known.{count_is}
use Rattle.seals.specs.Images.{framed, framed_blocks, row_rest}
use Rattle.seals.specs.Part.{part_blocks}
use Rattle.seals.specs.Calls.{same_family, same_count}
use Rattle.seals.proofs.Framed.{fits}

-- some blocks of a list framed, one after another, but for block j
unfoldable pub rest : List Bytes → ℕ → List ℕ → Bytes
rest bs j [] = []
rest bs j (m ∷ ms) = cond (m == j) [] (framed m (block_at bs m)) ++ rest bs j ms

pub rest_own : (bs : List Bytes) (j m : ℕ) (ms : List ℕ) → m ≡ j → rest bs j (m ∷ ms) ≡ rest bs j ms
unfolding rest
rest_own bs j m ms e = rw eq-eqb refl

pub rest_other : (bs : List Bytes) (j m : ℕ) (ms : List ℕ) → (m ≡ j → ⊥) → rest bs j (m ∷ ms) ≡ framed m (block_at bs m) ++ rest bs j ms
unfolding rest
rest_other bs j m ms e = rw ne_eqb refl

pub rest_longer : (bs : List Bytes) (j m : ℕ) (ms : List ℕ) → (m ≡ j → ⊥) → length (rest bs j (m ∷ ms)) ≡ 4 + length (block_at bs m) + length (rest bs j ms)
rest_longer bs j m ms e = rw rest_other (omega (arith, length-append (block_at bs m) (rest bs j ms)))

pub rest_none : (bs : List Bytes) (j : ℕ) (ms : List ℕ) → ms ≡ [] → rest bs j ms ≡ []
unfolding rest
rest_none bs j ms e = rw e refl

-- the other blocks of a list whose first has number `from` and which ends a longer one
rest_from : (holds : ℕ → Bool) (j from : ℕ) (all bs : List Bytes) → 1 ≤ from → ((i : ℕ) → get_or bs i [] ≡ block_at all (from + i))
    → rest all j (keep_where holds (numbers from (length bs))) ≡ framed_blocks (λ m. holds m && not (m == j)) from bs
unfolding framed_blocks keep_where numbers rest
rest_from holds j from all [] low at = refl
rest_from holds j from all (b ∷ bs) low at =
    go (holds from) (from == j) refl refl
    (rest_from holds j (suc from) all bs (omega arith) (λ i. at (suc i) ∙ ap (block_at all) (omega arith)))
  where
    first : b ≡ block_at all from
    first = at 0 ∙ ap (block_at all) (omega arith)

    go : (h t : Bool) → holds from ≡ h → (from == j) ≡ t
        → rest all j (keep_where holds (numbers (suc from) (length bs))) ≡ framed_blocks (λ m. holds m && not (m == j)) (suc from) bs
        → rest all j (keep_where holds (numbers from (length (b ∷ bs)))) ≡ framed_blocks (λ m. holds m && not (m == j)) from (b ∷ bs)
    go true true h t above = rw (h, t, above) refl
    go true false h t above = rw (h, t, first, above) refl
    go false t h e above = rw (h, above) refl

-- the other blocks of a row
pub rest_of_row : (f : Shape) (row j : ℕ) (bs : List Bytes) → length bs ≡ f.blocks → rest bs j (row_list f row) ≡ row_rest f.holds row j bs
unfolding row_rest held_after
rest_of_row f row j bs e =
    let count : f.blocks - 0 ≡ length bs = omega (arith, e) in
    ap (λ k. rest bs j (keep_where (f.holds row) (numbers 1 k))) count
    ∙ rest_from (f.holds row) j 1 bs bs (omega arith) (λ i. ap (λ k. get_or bs k []) (omega arith))

-- frames take four bytes a block more than the blocks
length_framed : (keep : ℕ → Bool) (j : ℕ) (bs : List Bytes) → length (framed_blocks keep j bs) ≤ 4 * length bs + total_bytes bs
unfolding framed_blocks
length_framed keep j [] = omega arith
length_framed keep j (b ∷ bs) = go (keep j) (length_framed keep (suc j) bs)
  where
    go : (k : Bool) → length (framed_blocks keep (suc j) bs) ≤ 4 * length bs + total_bytes bs
        → length (cond k (framed j b) [] ++ framed_blocks keep (suc j) bs) ≤ 4 * length (b ∷ bs) + total_bytes (b ∷ bs)
    go true above = omega (arith, above, length-append b (framed_blocks keep (suc j) bs))
    go false above = omega (arith, above)

pub rest_bound : (s : Sheet) (holds : ℕ → ℕ → Bool) (row j : ℕ) → length (row_rest holds row j (blocks_of s)) ≤ 40960
unfolding row_rest
rest_bound s holds row j = omega (arith, length_framed (λ m. holds row m && not (m == j)) 1 (blocks_of s), fits s, count_is s, s.counted)

-- the family of a seal has as many blocks as a sheet of the seal's count
pub family_count : (f : Shape) (part : Bytes) (bs : List Bytes) → same_family f part ≡ true → same_count bs part ≡ true → length bs ≡ f.blocks
unfolding same_family same_count
family_count f part bs e h =
    eqb-true (length bs) (part_blocks part) h ∙ eqb-true (part_blocks part) f.blocks (and_parts (part_blocks part == f.blocks) _ e).0
