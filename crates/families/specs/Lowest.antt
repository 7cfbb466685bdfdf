-- The lowest number that passes.
use Rattle.std.specs.Prelude.{◌≡◌, ℕ, zero, suc, ◌+◌, ◌-◌, ◌<◌, ◌≤◌, Bool, true, false, Some, None, refl}
use Rattle.std.proofs.Common.{sym, ap, ◌∙◌, inl, inr, arith}
use Rattle.std.proofs.lemmas.Bool.{cases_eq, cond-true, cond-false}
use Rattle.families.specs.Numbers.{lowest}

-- one number looked at
step_here : (f : ℕ → Bool) (from room : ℕ) → 0 < room → f from ≡ true → lowest f from room ≡ Some from
unfolding lowest
step_here f from zero h e = absurd (omega arith)
step_here f from (suc room) h e = cond-true _ _ _ e

step_on : (f : ℕ → Bool) (from room : ℕ) → 0 < room → f from ≡ false → lowest f from room ≡ lowest f (from + 1) (room - 1)
unfolding lowest
step_on f from zero h e = absurd (omega arith)
step_on f from (suc room) h e =
    let less : suc room - 1 ≡ room = omega arith in
    cond-false _ _ _ e ∙ ap (lowest f (from + 1)) (sym less)

pub lowest_end : (f : ℕ → Bool) (from : ℕ) → lowest f from 0 ≡ None
unfolding lowest
lowest_end f from = refl

-- a loop that looks at below + 1, below + 2 and so on, up to n
pub lowest_next : (f : ℕ → Bool) (below n : ℕ) → below < n → f (below + 1) ≡ true → lowest f (below + 1) (n - below) ≡ Some (below + 1)
lowest_next f below n h e = step_here f (below + 1) (n - below) (omega arith) e

pub lowest_more : (f : ℕ → Bool) (below n : ℕ) → below < n → f (below + 1) ≡ false → lowest f (below + 1) (n - below) ≡ lowest f (below + 1 + 1) (n - (below + 1))
lowest_more f below n h e =
    let less : n - below - 1 ≡ n - (below + 1) = omega arith in
    step_on f (below + 1) (n - below) (omega arith) e ∙ ap (lowest f (below + 1 + 1)) less

pub lowest_found : (f : ℕ → Bool) (room from m : ℕ) → from ≤ m → m < from + room → f m ≡ true → ((x : ℕ) → from ≤ x → x < m → f x ≡ false) → lowest f from room ≡ Some m
lowest_found f zero from m low high e none = absurd (omega arith)
lowest_found f (suc room) from m low high e none =
    elim (cases_eq from m) [
      | inl at ↦ step_here f from (suc room) (omega arith) (ap f at ∙ e) ∙ ap (λ x. Some x) at
      | inr off ↦
          let less : suc room - 1 ≡ room = omega arith in
          step_on f from (suc room) (omega arith) (none from (omega arith) (omega arith)) ∙ ap (lowest f (from + 1)) less
          ∙ lowest_found f room (from + 1) m (omega arith) (omega arith) e (λ x l h. none x (omega arith) h)
    ]

pub lowest_none : (f : ℕ → Bool) (room from : ℕ) → ((x : ℕ) → from ≤ x → x < from + room → f x ≡ false) → lowest f from room ≡ None
lowest_none f zero from none = lowest_end f from
lowest_none f (suc room) from none =
    let less : suc room - 1 ≡ room = omega arith in
    step_on f from (suc room) (omega arith) (none from (omega arith) (omega arith)) ∙ ap (lowest f (from + 1)) less
    ∙ lowest_none f room (from + 1) (λ x l h. none x (omega arith) (omega arith))
