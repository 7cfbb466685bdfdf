-- The list of a row's blocks, taken apart at its lowest.
use Rattle.std.specs.Prelude.{◌≡◌, ℕ, zero, suc, ◌+◌, ◌-◌, ◌<◌, ◌≤◌, Bool, true, false, cond, [], ◌∷◌, Some, None, Option, refl}
use Rattle.std.specs.Option.{option_map}
use Rattle.std.proofs.Common.{ap, ◌∙◌, subst, arith}
use Rattle.std.proofs.lemmas.Grind.{common_steps}
use Rattle.answers.specs.declared.BlockNumber.{BlockNumber}
use Rattle.answers.specs.Numbers.{block_number}
use Rattle.families.specs.Numbers.{lowest, numbers, keep_where}
use Rattle.families.specs.Shape.{Shape, next_held, held_after}

-- where none passes, none is kept
none_kept : (p : ℕ → Bool) (from room : ℕ) → lowest p from room ≡ None → keep_where p (numbers from room) ≡ []
unfolding lowest keep_where numbers
none_kept p from zero e = refl
none_kept p from (suc room) e = go (p from) refl (none_kept p (from + 1) room) e
  where
    next : suc from ≡ from + 1
    next = omega arith

    go : (b : Bool) → p from ≡ b → (lowest p (from + 1) room ≡ None → keep_where p (numbers (from + 1) room) ≡ [])
        → cond b (Some from) (lowest p (from + 1) room) ≡ None → keep_where p (numbers from (suc room)) ≡ []
    go true t above q = absurd (grind (arith, q, common_steps))
    go false t above q = rw t (ap (λ k. keep_where p (numbers k room)) next ∙ above q)

-- the lowest that passes stands in front of those above it
record Front (p : ℕ → Bool) (from room m : ℕ) : Type 0 where
  low : from ≤ m
  high : m < from + room
  kept : keep_where p (numbers from room) ≡ m ∷ keep_where p (numbers (m + 1) (from + room - (m + 1)))

front : (p : ℕ → Bool) (from room m : ℕ) → lowest p from room ≡ Some m → Front p from room m
unfolding lowest keep_where numbers
front p from zero m e = absurd (grind (arith, e, common_steps))
front p from (suc room) m e = go (p from) refl (front p (from + 1) room m) e
  where
    next : suc from ≡ from + 1
    next = omega arith

    go : (b : Bool) → p from ≡ b → (lowest p (from + 1) room ≡ Some m → Front p (from + 1) room m) → cond b (Some from) (lowest p (from + 1) room) ≡ Some m → Front p from (suc room) m
    go true t above q =
        let at : from ≡ m = grind (arith, q, common_steps) in
        let left : room ≡ from + suc room - (from + 1) = omega arith in
        subst (λ k. Front p from (suc room) k) at
        (record {
          low = omega arith;
          high = omega arith;
          kept = rw t (ap (λ k. from ∷ keep_where p (numbers k room)) next ∙ ap (λ k. from ∷ keep_where p (numbers (from + 1) k)) left);
        })
    go false t above q =
        let f = above q in
        let l = f.low in
        let h = f.high in
        let same : from + 1 + room ≡ from + suc room = omega arith in
        record {
          low = omega arith;
          high = omega arith;
          kept = rw t (ap (λ k. keep_where p (numbers k room)) next ∙ f.kept ∙ ap (λ k. m ∷ keep_where p (numbers (m + 1) (k - (m + 1)))) same);
        }

pub none_held : (f : Shape) (row after : ℕ) → next_held f row after ≡ None → held_after f row after ≡ []
unfolding held_after
none_held f row after e = none_kept (f.holds row) (after + 1) (f.blocks - after) (grind (arith, e, common_steps))

pub some_held : (f : Shape) (row after : ℕ) (b : BlockNumber) → next_held f row after ≡ Some b
    → held_after f row after ≡ b.0 ∷ held_after f row b.0
unfolding held_after
some_held f row after b e = go (lowest (f.holds row) (after + 1) (f.blocks - after)) refl e
  where
    go : (r : Option ℕ) → lowest (f.holds row) (after + 1) (f.blocks - after) ≡ r → option_map block_number r ≡ Some b
        → keep_where (f.holds row) (numbers (after + 1) (f.blocks - after)) ≡ b.0 ∷ keep_where (f.holds row) (numbers (b.0 + 1) (f.blocks - b.0))
    go None q s = absurd (grind (arith, s, common_steps))
    go (Some m) q s =
        let f′ = front (f.holds row) (after + 1) (f.blocks - after) m q in
        let l = f′.low in
        let h = f′.high in
        let at : m ≡ b.0 = grind (arith, s, common_steps) in
        let left : after + 1 + (f.blocks - after) - (m + 1) ≡ f.blocks - m = omega arith in
        f′.kept ∙ ap (λ k. m ∷ keep_where (f.holds row) (numbers (m + 1) k)) left
        ∙ ap (λ k. k ∷ keep_where (f.holds row) (numbers (k + 1) (f.blocks - k))) at
