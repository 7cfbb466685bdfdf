-- The blocks that are not cleared: one block more, and what is written of them.
use Rattle.std.specs.Prelude.{◌⊎◌}
use Rattle.std.proofs.Common.{◌≡◌, ℕ, zero, suc, ◌+◌, ◌-◌, ◌<◌, ◌≤◌, Bool, true, false, not, List, [], ◌∷◌, ◌++◌, length, get_or, set, drop, refl, sym, ap, ◌∙◌, append_assoc, inl, inr, arith}
use Rattle.std.proofs.lemmas.Bool.{cases_Bool}
use Rattle.std.proofs.lemmas.List.{append-nil, length_push, drop_more, set_at}
use Rattle.families.specs.Numbers.{numbers, keep_where}
use Rattle.seals.specs.Cleared.{is_cleared, uncleared}

pub numbers_push : (from n : ℕ) → numbers from (suc n) ≡ numbers from n ++ (from + n) ∷ []
unfolding numbers
numbers_push from zero = ap (λ k. k ∷ []) (omega arith)
numbers_push from (suc n) = ap (λ ks. from ∷ ks) (numbers_push (suc from) n ∙ ap (λ k. numbers (suc from) n ++ k ∷ []) (omega arith))

keep_append : (p : ℕ → Bool) (xs ys : List ℕ) → keep_where p (xs ++ ys) ≡ keep_where p xs ++ keep_where p ys
unfolding keep_where
keep_append p [] ys = refl
keep_append p (x ∷ xs) ys = go (p x) (keep_append p xs ys)
  where
    go : (b : Bool) → keep_where p (xs ++ ys) ≡ keep_where p xs ++ keep_where p ys
        → elim b [ true ↦ x ∷ keep_where p (xs ++ ys) | false ↦ keep_where p (xs ++ ys) ]
        ≡ elim b [ true ↦ x ∷ keep_where p xs | false ↦ keep_where p xs ] ++ keep_where p ys
    go true e = ap (λ zs. x ∷ zs) e
    go false e = e

kept_one : (p : ℕ → Bool) (x : ℕ) → p x ≡ true → keep_where p (x ∷ []) ≡ x ∷ []
unfolding keep_where
kept_one p x e = rw (e, keep_where)

left_one : (p : ℕ → Bool) (x : ℕ) → p x ≡ false → keep_where p (x ∷ []) ≡ []
unfolding keep_where
left_one p x e = rw (e, keep_where)

module _ (cleared : List Bool) (i : ℕ) where
  left : ℕ → Bool
  left j = not (is_cleared cleared j)

  pushed : uncleared cleared (i + 1) ≡ uncleared cleared i ++ keep_where left ((i + 1) ∷ [])
  unfolding uncleared left
  pushed =
      let next : i + 1 ≡ suc i = omega arith in
      let last : 1 + i ≡ i + 1 = omega arith in
      ap (λ k. keep_where left (numbers 1 k)) next
      ∙ ap (keep_where left) (numbers_push 1 i ∙ ap (λ k. numbers 1 i ++ k ∷ []) last)
      ∙ keep_append left (numbers 1 i) ((i + 1) ∷ [])

  passed : (b : Bool) → get_or cleared i false ≡ b → left (i + 1) ≡ not b
  unfolding left
  passed b e = let here : (i + 1) - 1 ≡ i = omega arith in ap (λ k. not (get_or cleared k false)) here ∙ ap not e

  pub uncleared_yes : get_or cleared i false ≡ false → uncleared cleared (i + 1) ≡ uncleared cleared i ++ (i + 1) ∷ []
  uncleared_yes e = pushed ∙ ap (λ zs. uncleared cleared i ++ zs) (kept_one left (i + 1) (passed false e))

  pub uncleared_no : get_or cleared i false ≡ true → uncleared cleared (i + 1) ≡ uncleared cleared i
  uncleared_no e = pushed ∙ ap (λ zs. uncleared cleared i ++ zs) (left_one left (i + 1) (passed true e)) ∙ append-nil (uncleared cleared i)

  -- how many there are then
  pub counted_yes : get_or cleared i false ≡ false → length (uncleared cleared (i + 1)) ≡ length (uncleared cleared i) + 1
  counted_yes e = ap length (uncleared_yes e) ∙ length_push (uncleared cleared i) (i + 1)

  pub counted_no : get_or cleared i false ≡ true → length (uncleared cleared (i + 1)) ≡ length (uncleared cleared i)
  counted_no e = ap length (uncleared_no e)

pub counted_none : (cleared : List Bool) → length (uncleared cleared 0) ≡ 0
unfolding uncleared numbers keep_where
counted_none cleared = refl

more : (cleared : List Bool) (i room : ℕ) → length (uncleared cleared i) ≤ length (uncleared cleared (i + room))
more cleared i zero = let here : i ≡ i + 0 = omega arith in rw (← here) (omega arith)
more cleared i (suc room) =
    let on : i + suc room ≡ i + room + 1 = omega arith in
    rw on (omega (arith, more cleared i room, step (cases_Bool (get_or cleared (i + room) false))))
  where
    step : (get_or cleared (i + room) false ≡ true) ⊎ (get_or cleared (i + room) false ≡ false)
        → length (uncleared cleared (i + room)) ≤ length (uncleared cleared (i + room + 1))
    step (inl e) = omega (arith, counted_no cleared (i + room) e)
    step (inr e) = omega (arith, counted_yes cleared (i + room) e)

pub uncleared_bound : (cleared : List Bool) (n : ℕ) → length (uncleared cleared n) ≤ n
uncleared_bound cleared zero = omega (arith, counted_none cleared)
uncleared_bound cleared (suc n) = let next : suc n ≡ n + 1 = omega arith in rw next (omega (arith, uncleared_bound cleared n, step (cases_Bool (get_or cleared n false))))
  where
    step : (get_or cleared n false ≡ true) ⊎ (get_or cleared n false ≡ false) → length (uncleared cleared (n + 1)) ≤ length (uncleared cleared n) + 1
    step (inl e) = omega (arith, counted_no cleared n e)
    step (inr e) = omega (arith, counted_yes cleared n e)

-- a list with room for all has room for each
pub has_place : (cleared : List Bool) (i n room : ℕ) → get_or cleared i false ≡ false → i < n → length (uncleared cleared n) ≤ room → length (uncleared cleared i) < room
has_place cleared i n room e h fits =
    let all : i + 1 + (n - (i + 1)) ≡ n = omega arith in
    omega (arith, counted_yes cleared i e, ap (λ k. length (uncleared cleared k)) all, more cleared (i + 1) (n - (i + 1)))

-- a list with some of them in front
unfoldable pub written : List Bool → ℕ → List ℕ → List ℕ
written cleared i list = uncleared cleared i ++ drop (length (uncleared cleared i)) list

pub written_yes : (cleared : List Bool) (i : ℕ) (list : List ℕ) → get_or cleared i false ≡ false → length (uncleared cleared i) < length list
    → set (written cleared i list) (length (uncleared cleared i)) (i + 1) ≡ written cleared (i + 1) list
unfolding written
written_yes cleared i list e room =
    let found = uncleared cleared i in
    let k = length found in
    ap (λ t. set (found ++ t) k (i + 1)) (drop_more list k 0 room)
    ∙ set_at found (get_or list k 0) (drop (k + 1) list) (i + 1) k refl
    ∙ sym (append_assoc found ((i + 1) ∷ []) (drop (k + 1) list))
    ∙ ap (λ n. (found ++ (i + 1) ∷ []) ++ drop n list) (sym (counted_yes cleared i e))
    ∙ ap (λ xs. xs ++ drop (length (uncleared cleared (i + 1))) list) (sym (uncleared_yes cleared i e))

pub written_no : (cleared : List Bool) (i : ℕ) (list : List ℕ) → get_or cleared i false ≡ true → written cleared i list ≡ written cleared (i + 1) list
unfolding written
written_no cleared i list e = ap (λ xs. xs ++ drop (length xs) list) (sym (uncleared_no cleared i e))

pub written_none : (cleared : List Bool) (list : List ℕ) → written cleared 0 list ≡ list
unfolding written uncleared numbers keep_where
written_none cleared list = refl

pub written_all : (cleared : List Bool) (i n : ℕ) (list : List ℕ) → i ≡ n → written cleared i list ≡ uncleared cleared n ++ drop (length (uncleared cleared n)) list
unfolding written
written_all cleared i n list e = ap (λ k. uncleared cleared k ++ drop (length (uncleared cleared k)) list) e
