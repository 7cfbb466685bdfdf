-- When a call is answered and when it is refused, and what it means that two strings are the same.
use Rattle.std.proofs.Common.{◌≡◌, ℕ, Bool, true, false, eqb, ◌⊎◌, List, [], ◌∷◌, ◌++◌, Ok, Err, Result, refl, ap₂, inl, inr, subst, true≢false, arith}
use mathlib.Core.Bool.{false≢true}
use Rattle.std.proofs.lemmas.Bool.{eqb-true, eq-eqb, and_parts, and_from, or_from}
use Rattle.answers.specs.declared.Refusal.{Refusal}
use Rattle.answers.specs.Refusals.{unless, number_of}
use Rattle.digests.specs.Strings.{Bytes, same}
use Rattle.seals.specs.Calls.{held_back}
use Rattle.seals.specs.Law.{Done, done_as, RefusesAs}

-- no cause of refusal holds
abbrev pub ClearOf : List (Bool × Refusal) → Type 0
ClearOf [] = Unit {0}
ClearOf (c ∷ cs) = (c.0 ≡ false) × ClearOf cs

-- so it is where a call succeeds, and the answer is then the result
pub was_answered : {A : Type 0} (causes : List (Bool × Refusal)) (a x : A) → unless causes a ≡ Ok x → ClearOf causes × (a ≡ x)
was_answered [] a x h = (tt, cc)
was_answered {A} (c ∷ cs) a x h = go c.0 refl h (was_answered cs a x)
  where
    go : (t : Bool) → c.0 ≡ t → ◌≡◌ {A = Result A Refusal} (elim t [ true ↦ Err c.1 | false ↦ unless cs a ]) (Ok x)
        → (unless cs a ≡ Ok x → ClearOf cs × (a ≡ x)) → ClearOf (c ∷ cs) × (a ≡ x)
    go true e k rest = let z : ◌≡◌ {A = ℕ} 0 1 = cc in absurd (omega arith)
    go false e k rest = ((e, (rest k).0), (rest k).1)

-- then none of the causes in front holds
pub clear_first : (xs ys : List (Bool × Refusal)) → ClearOf (xs ++ ys) → held_back xs ≡ false
clear_first [] ys h = refl
clear_first (x ∷ xs) ys h = or_from _ _ h.0 (clear_first xs ys h.1)

-- each cause does not hold or has another number
abbrev pub Never : ℕ → List (Bool × Refusal) → Type 0
Never n [] = Unit {0}
Never n (c ∷ cs) = ((c.0 ≡ false) ⊎ (number_of c.1 ≡ n → ⊥)) × Never n cs

-- so a call is not refused as that number
pub never_refused : {A : Type 0} (f : A → Done) (n : ℕ) (vs : List ℕ) (causes : List (Bool × Refusal)) (a : A) → Never n causes
    → RefusesAs n vs (done_as f (unless causes a)) → ⊥
never_refused f n vs [] a h r = r
never_refused {A} f n vs (c ∷ cs) a h r = go c.0 h.0 r (never_refused f n vs cs a h.1)
  where
    go : (t : Bool) → (t ≡ false) ⊎ (number_of c.1 ≡ n → ⊥)
        → RefusesAs n vs (done_as f (elim t [ true ↦ Err c.1 | false ↦ unless cs a ]))
        → (RefusesAs n vs (done_as f (unless cs a)) → ⊥) → ⊥
    go false k r rest = rest r
    go true (inl k) r rest = true≢false k
    go true (inr k) r rest = k r.0

-- strings for which `same` says yes are equal, and equal ones are such
pub same_true : (xs ys : Bytes) → same xs ys ≡ true → xs ≡ ys
same_true [] [] h = refl
same_true [] (y ∷ ys) h = absurd (false≢true h)
same_true (x ∷ xs) [] h = absurd (false≢true h)
same_true (x ∷ xs) (y ∷ ys) h =
    let both = and_parts (eqb x y) (same xs ys) h in
    ap₂ {C = Bytes} (λ a b. a ∷ b) (eqb-true x y both.0) (same_true xs ys both.1)

pub same_refl : (xs : Bytes) → same xs xs ≡ true
same_refl [] = refl
same_refl (x ∷ xs) = and_from (eqb x x) (same xs xs) (eq-eqb x x refl) (same_refl xs)

pub same_from : (xs ys : Bytes) → xs ≡ ys → same xs ys ≡ true
same_from xs ys e = subst (λ (z : Bytes). same xs z ≡ true) e (same_refl xs)
