-- What a row clears, and what all rows have cleared in the end.
use Rattle.std.proofs.Common.{◌≡◌, ℕ, zero, suc, ◌+◌, ◌-◌, ◌<◌, ◌≤◌, ◌≢◌, Bool, true, false, ◌&&◌, ◌||◌, eqb, ◌⊎◌, List, [], ◌∷◌, ◌++◌, length, set, replicate, refl, sym, ap, ◌∙◌, inl, inr, arith}
use Rattle.std.proofs.lemmas.List.{get_or-set_same, get_or-set_other, get_or-replicate, get_or_past, length-replicate}
use Rattle.std.proofs.lemmas.Bool.{cases_eq, cases_lt, false_from_ne_true, eq-eqb, ne_eqb, and_right, or_left, or_right}
use Rattle.families.specs.Numbers.{numbers, keep_where, any_of, among}
use Rattle.families.specs.Shape.{Shape, Lawful, held_after, row_list}
use Rattle.seals.specs.Cleared.{is_cleared}
use Rattle.seals.proofs.Uncleared.{numbers_push}

-- a number stands among those kept if it stood there and passes
among_kept : (p : ℕ → Bool) (j : ℕ) (xs : List ℕ) → among j (keep_where p xs) ≡ (among j xs && p j)
unfolding keep_where
among_kept p j [] = refl
among_kept p j (x ∷ xs) = go (p x) refl (cases_eq j x) (among_kept p j xs)
  where
    go : (b : Bool) → p x ≡ b → (j ≡ x) ⊎ (j ≢ x) → among j (keep_where p xs) ≡ (among j xs && p j)
        → among j (elim b [ true ↦ x ∷ keep_where p xs | false ↦ keep_where p xs ]) ≡ ((eqb j x || among j xs) && p j)
    go true t (inl e) rest = rw (eq-eqb j x e) (sym (ap p e ∙ t))
    go true t (inr off) rest = rw (ne_eqb j x off) rest
    go false t (inl e) rest = let none = ap p e ∙ t in rest ∙ and_right (among j xs) (p j) none ∙ sym (and_right (eqb j x || among j xs) (p j) none)
    go false t (inr off) rest = rw (ne_eqb j x off) rest

among_numbers : (from room j : ℕ) → from ≤ j → j < from + room → among j (numbers from room) ≡ true
unfolding numbers
among_numbers from zero j low high = absurd (omega arith)
among_numbers from (suc room) j low high = go (cases_eq j from) (among_numbers (suc from) room j)
  where
    go : (j ≡ from) ⊎ (j ≢ from) → (suc from ≤ j → j < suc from + room → among j (numbers (suc from) room) ≡ true)
        → (eqb j from || among j (numbers (suc from) room)) ≡ true
    go (inl e) above = or_left (eqb j from) _ (eq-eqb j from e)
    go (inr off) above = or_right (eqb j from) _ (above (omega arith) (omega arith))

among_past : (from room j : ℕ) → from + room ≤ j → among j (numbers from room) ≡ false
unfolding numbers
among_past from zero j high = refl
among_past from (suc room) j high =
    let off : j ≢ from = omega arith in
    rw (ne_eqb j from off) (among_past (suc from) room j (omega arith))

-- the blocks of a row are those that it holds
pub among_row : (f : Shape) → Lawful f → (row j : ℕ) → 1 ≤ j → among j (row_list f row) ≡ f.holds row j
unfolding held_after
among_row f law row j low = among_kept (f.holds row) j (numbers 1 (f.blocks - 0)) ∙ go (cases_lt f.blocks j)
  where
    go : (f.blocks < j) ⊎ (j ≤ f.blocks) → (among j (numbers 1 (f.blocks - 0)) && f.holds row j) ≡ f.holds row j
    go (inl past) =
        let none = false_from_ne_true (f.holds row j) (λ e. absurd (omega (arith, (law.inside row j e).3))) in
        and_right (among j (numbers 1 (f.blocks - 0))) (f.holds row j) none ∙ sym none
    go (inr high) = rw (among_numbers 1 (f.blocks - 0) j low (omega arith))

-- one block more is cleared
pub clear_step : (cleared : List Bool) (x j : ℕ) (xs : List ℕ) → 1 ≤ x → x ≤ length cleared → 1 ≤ j
    → (is_cleared (set cleared (x - 1) true) j || among j xs) ≡ (is_cleared cleared j || among j (x ∷ xs))
clear_step cleared x j xs low high some = go (cases_eq j x)
  where
    go : (j ≡ x) ⊎ (j ≢ x) → (is_cleared (set cleared (x - 1) true) j || among j xs) ≡ (is_cleared cleared j || among j (x ∷ xs))
    go (inl e) =
        or_left (is_cleared (set cleared (x - 1) true) j) _ (ap (is_cleared (set cleared (x - 1) true)) e ∙ get_or-set_same cleared (x - 1) true false (omega arith))
        ∙ sym (or_right (is_cleared cleared j) (among j (x ∷ xs)) (or_left (eqb j x) (among j xs) (eq-eqb j x e)))
    go (inr off) =
        let apart : (j - 1) ≢ (x - 1) = omega arith in
        rw (get_or-set_other cleared (x - 1) (j - 1) true false apart, ne_eqb j x off)

-- none is left to clear
pub clear_end : (b : Bool) (j : ℕ) (xs : List ℕ) → xs ≡ [] → (b || among j xs) ≡ b
clear_end true j xs none = refl
clear_end false j xs none = ap (among j) none

pub none_cleared : (n j : ℕ) → is_cleared (replicate n false) j ≡ false
none_cleared n j = go (cases_lt (j - 1) n)
  where
    go : (j - 1 < n) ⊎ (n ≤ j - 1) → is_cleared (replicate n false) j ≡ false
    go (inl within) = get_or-replicate n (j - 1) false false within
    go (inr past) = get_or_past (replicate n false) (j - 1) false (omega (arith, length-replicate n false))

any_append : (q : ℕ → Bool) (xs ys : List ℕ) → any_of q (xs ++ ys) ≡ (any_of q xs || any_of q ys)
unfolding any_of
any_append q [] ys = refl
any_append q (x ∷ xs) ys = go (q x) (any_append q xs ys)
  where
    go : (b : Bool) → any_of q (xs ++ ys) ≡ (any_of q xs || any_of q ys)
        → elim b [ true ↦ true | false ↦ any_of q (xs ++ ys) ] ≡ (elim b [ true ↦ true | false ↦ any_of q xs ] || any_of q ys)
    go true e = refl
    go false e = e

any_one : (q : ℕ → Bool) (x : ℕ) → any_of q (x ∷ []) ≡ q x
unfolding any_of
any_one q x = go (q x)
  where
    go : (b : Bool) → elim b [ true ↦ true | false ↦ false ] ≡ b
    go true = refl
    go false = refl

-- one row more
pub any_more : (q : ℕ → Bool) (row : ℕ) → 1 ≤ row → (any_of q (numbers 1 (row - 1)) || q row) ≡ any_of q (numbers 1 (row + 1 - 1))
any_more q row low =
    let last : 1 + (row - 1) ≡ row = omega arith in
    let count : suc (row - 1) ≡ row + 1 - 1 = omega arith in
    ap (λ b. any_of q (numbers 1 (row - 1)) || b) (sym (any_one q row))
    ∙ sym (any_append q (numbers 1 (row - 1)) (row ∷ []))
    ∙ ap (λ k. any_of q (numbers 1 (row - 1) ++ k ∷ [])) (sym last)
    ∙ ap (any_of q) (sym (numbers_push 1 (row - 1)))
    ∙ ap (λ k. any_of q (numbers 1 k)) count

pub any_none : (q : ℕ → Bool) → any_of q (numbers 1 0) ≡ false
unfolding any_of numbers
any_none q = refl
