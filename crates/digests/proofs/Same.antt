-- Two strings are equal exactly if no byte XOR the other's is above 0.
use Rattle.std.proofs.Common.{◌≡◌, ℕ, suc, false, ◌&&◌, eqb, [], ◌∷◌, length, sym, refl, ap, ◌∙◌, arith}
use lib.Bits.{bit_or, bit_xor, or_add_and, xor_assoc, xor_self, xor_zero_l, xor_zero_r}
use Rattle.std.specs.List.{fold, zip}
use Rattle.std.proofs.Math.Bool.{and-true, and-false, and_assoc}
use Rattle.std.proofs.lemmas.Nat.{and_le_l, and_le_r}
use Rattle.std.proofs.lemmas.Bool.Decides.{nat_tests}
use Rattle.digests.specs.Strings.{Bytes, same}

xor_none : (x y : ℕ) → bit_xor x y ≡ 0 → x ≡ y
xor_none x y e =
    sym (xor_zero_r x) ∙ ap (bit_xor x) (sym (xor_self y)) ∙ sym (xor_assoc x y y) ∙ ap (λ z. bit_xor z y) e ∙ xor_zero_l y

-- the bits in which the bytes of two strings so far differ, with those of one pair more
abbrev pub differ : ℕ → ℕ × ℕ → ℕ
differ d p = bit_or d (bit_xor p.0 p.1)

seen : (d x y : ℕ) → eqb (differ d (x, y)) 0 ≡ (eqb d 0 && eqb x y)
seen d x y =
    let both = or_add_and d (bit_xor x y) in
    let left = and_le_l d (bit_xor x y) in
    let right = and_le_r d (bit_xor x y) in
    let none = xor_none x y in
    let equal : x ≡ y → bit_xor x y ≡ 0 = λ e. ap (bit_xor x) (sym e) ∙ xor_self x in
    grind (arith, nat_tests)

fold_same : (xs ys : Bytes) (d : ℕ) → length xs ≡ length ys → eqb (fold differ d (zip xs ys)) 0 ≡ (eqb d 0 && same xs ys)
fold_same [] [] d e = sym (and-true (eqb d 0))
fold_same [] (y ∷ ys) d e = absurd (omega arith)
fold_same (x ∷ xs) [] d e = absurd (omega arith)
fold_same (x ∷ xs) (y ∷ ys) d e =
    fold_same xs ys (differ d (x, y)) (omega arith) ∙ ap (λ b. b && same xs ys) (seen d x y) ∙ and_assoc (eqb d 0) (eqb x y) (same xs ys)

pub same_by_fold : (xs ys : Bytes) → length xs ≡ length ys → same xs ys ≡ eqb (fold differ 0 (zip xs ys)) 0
same_by_fold xs ys e = sym (fold_same xs ys 0 e)

pub same_length : (xs ys : Bytes) → (length xs ≡ length ys → ⊥) → same xs ys ≡ false
same_length [] [] h = absurd (h refl)
same_length [] (y ∷ ys) h = refl
same_length (x ∷ xs) [] h = refl
same_length (x ∷ xs) (y ∷ ys) h = ap (λ v. eqb x y && v) (same_length xs ys (λ e. h (ap suc e))) ∙ and-false (eqb x y)
