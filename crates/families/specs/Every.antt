-- A test that all numbers below a bound pass, computed at once.
use Rattle.std.specs.Prelude.{◌≡◌, ℕ, zero, suc, ◌<◌, Bool, true, ◌&&◌}
use Rattle.std.proofs.Common.{ap, ◌∙◌, inl, inr, arith}
use Rattle.std.proofs.lemmas.Bool.{cases_eq, and_parts}

abbrev pub every : (ℕ → Bool) → ℕ → Bool
every f zero = true
every f (suc n) = f n && every f n

pub at_each : (f : ℕ → Bool) (n : ℕ) → every f n ≡ true → (a : ℕ) → a < n → f a ≡ true
at_each f zero e a h = absurd (omega arith)
at_each f (suc n) e a h =
    let parts = and_parts (f n) (every f n) e in
    elim (cases_eq a n) [ inl at ↦ ap f at ∙ parts.0 | inr off ↦ at_each f n parts.1 a (omega arith) ]
