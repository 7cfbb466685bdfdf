-- Where the constants come from: the first 32 bits of the fractional parts of roots of the first primes. Assumes nothing.
use Rattle.std.specs.Prelude.{◌≡◌, ℕ, zero, suc, ◌+◌, ◌*◌, ◌%◌, ◌^◌, Bool, true, false, cond, not, ◌&&◌, List, [], ◌∷◌, length, ◌==◌, nat_le, nat_lt}
use Rattle.sha256.specs.declared.state.State.{State}
use Rattle.sha256.specs.Sha256.{K, initial}

-- no number from d on, n of them, divides p
abbrev pub undivided : ℕ → ℕ → ℕ → Bool
undivided p d zero = true
undivided p d (suc n) = not (p % d == 0) && undivided p (d + 1) n

-- the primes among the n numbers from m + 2 on
abbrev pub primes_from : ℕ → ℕ → List ℕ
primes_from m zero = []
primes_from m (suc n) = cond (undivided (m + 2) 2 m) ((m + 2) ∷ primes_from (m + 1) n) (primes_from (m + 1) n)

-- the largest number up to n whose e-th power is at most p
abbrev pub root : ℕ → ℕ → ℕ → ℕ
root e p zero = 0
root e p (suc n) = cond (nat_le ((suc n) ^ e) p) (suc n) (root e p n)

-- k is the first 32 bits of the fractional part of p's e-th root
abbrev pub is_fraction : ℕ → ℕ → ℕ → Bool
is_fraction e p k =
    let c = root e p 18 * 2 ^ 32 + k in  -- 18^2 is above 311
    nat_lt k (2 ^ 32) && (nat_le (c ^ e) (p * 2 ^ (32 * e)) && nat_lt (p * 2 ^ (32 * e)) ((c + 1) ^ e))

-- one constant for each prime, in their order
abbrev pub fractions : ℕ → List ℕ → List ℕ → Bool
fractions e [] [] = true
fractions e [] (k ∷ ks) = false
fractions e (p ∷ ps) [] = false
fractions e (p ∷ ps) (k ∷ ks) = is_fraction e p k && fractions e ps ks

abbrev pub words_of : State → List ℕ
words_of s = s.a ∷ (s.b ∷ (s.c ∷ (s.d ∷ (s.e ∷ (s.f ∷ (s.g ∷ (s.h ∷ [])))))))

-- The rounds' constants are of cube roots of the first 64 primes, which are those up to 311; the initial hash value's of square roots of the first eight, those up to 19.
abbrev pub ConstantsRule : Type 0
ConstantsRule =
    (length (primes_from 0 310) ≡ 64) × (fractions 3 (primes_from 0 310) K ≡ true) × (length (primes_from 0 18) ≡ 8)
    × (fractions 2 (primes_from 0 18) (words_of initial) ≡ true)
