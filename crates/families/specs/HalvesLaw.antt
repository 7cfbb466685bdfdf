-- Halves is cover-free: two numbers of as many ones have each a one that the other lacks.
use Rattle.std.specs.Prelude.{◌≡◌, ℕ, zero, suc, ◌+◌, ◌-◌, ◌/◌, ◌%◌, ◌^◌, ◌<◌, ◌≤◌, Bool, true, false, not, ◌&&◌, ◌⊎◌, List, [], ◌∷◌, length, ◌==◌, ◌≢◌, nat_eq, nat_le, refl}
use Rattle.std.proofs.Common.{sym, ap, ◌∙◌, inl, inr, div-one, arith}
use Rattle.std.proofs.Math.Nat.{pow-succ', div-div-eq-div-mul}
use Rattle.std.proofs.lemmas.Bool.{cases_Bool, cases_lt, cases_order, and_parts, and_from, and_right, and_left, eq-eqb, eqb-true, eqb-false, not-true, both_ways, leb-true, leb-false}
use Rattle.families.specs.Numbers.{count, some}
use Rattle.families.specs.Family.{Beside, NoneIn}
use Rattle.families.specs.Halves.{bit, half_ones, jth_half, halves_held, limits, Counted, LimitsCounted, first_limit, halves_rows, HalvesCoverFree}
use Rattle.families.specs.Bounded.{cover_bounded, cover_fewer}
use Rattle.families.specs.Counting.{count_more, passes_somewhere, some_here, none_there, some_where}

-- the number with r passing numbers before it
nth : (f : ℕ → Bool) (n r : ℕ) → r < count f n → (v : ℕ) × (v < n) × (f v ≡ true) × (count f v ≡ r)
nth f zero r h = absurd (omega arith)
nth f (suc n) r h =
    elim (cases_lt r (count f n)) [
      | inl lt ↦ let v = nth f n r lt in (v.0, omega (arith, v.1), v.2, v.3)
      | inr ge ↦
          elim (cases_Bool (f n)) [
            | inl e ↦ let h' : r < 1 + count f n = rw e at h in (n, omega arith, e, omega arith)
            | inr e ↦ let h' : r < 0 + count f n = rw e at h in absurd (omega arith)
          ]
    ]

pub count_grows : (f : ℕ → Bool) (u v : ℕ) → u ≤ v → count f u ≤ count f v
count_grows f u zero h = let z : u ≡ 0 = omega arith in rw z (omega arith)
count_grows f u (suc v) h =
    elim (cases_lt v u) [
      | inl lt ↦ let z : u ≡ suc v = omega arith in rw z (omega arith)
      | inr le ↦ let ih = count_grows f u v le in omega arith
    ]

before : (f : ℕ → Bool) (u v : ℕ) → f u ≡ true → u < v → count f u < count f v
before f u v e h =
    let next : 1 + count f u ≤ count f v = rw e at (count_grows f (suc u) v h) in
    omega arith

nth_one : (f : ℕ → Bool) (u v : ℕ) → f u ≡ true → f v ≡ true → count f u ≡ count f v → u ≡ v
nth_one f u v eu ev same =
    elim (cases_order u v) [
      | inl e ↦ e
      | inr (inl lt) ↦ let z = before f u v eu lt in omega arith
      | inr (inr gt) ↦ let z = before f v u ev gt in omega arith
    ]

-- g passes where f does, and no more often: they are the same
count_same : (f g : ℕ → Bool) (n : ℕ) → ((a : ℕ) → a < n → f a ≡ true → g a ≡ true) → count g n ≤ count f n → (a : ℕ) → a < n → f a ≡ g a
count_same f g zero w h a lt = absurd (omega arith)
count_same f g (suc n) w h a lt =
    let w' : (x : ℕ) → x < n → f x ≡ true → g x ≡ true = λ x lx e. w x (omega arith) e in
    let more = count_more f g n w' in
    let here : f n ≡ g n =
    elim (cases_Bool (f n)) [
      | inl e ↦ e ∙ sym (w n (omega arith) e)
      | inr e ↦
          elim (cases_Bool (g n)) [
            | inl k ↦
                let h' : 1 + count g n ≤ 0 + count f n = rw (e, k) at h in
                absurd (omega arith)
            | inr k ↦ e ∙ sym k
          ]
    ]
    in
    let fewer : count g n ≤ count f n = let h' = rw here at h in omega arith in
    elim (cases_lt a n) [
      | inl below ↦ count_same f g n w' fewer a below
      | inr top ↦ let at : a ≡ n = omega arith in ap f at ∙ here ∙ ap g (sym at)
    ]

pub bit_next : (v i : ℕ) → bit (v / 2) i ≡ bit v (suc i)
bit_next v i = ap (λ x. nat_eq (x % 2) 1) (div-div-eq-div-mul v 2 (2 ^ i) ∙ ap (λ x. v / x) (sym (pow-succ' 2 i)))

odd_bit : (u v : ℕ) → (u % 2 == 1) ≡ (v % 2 == 1) → u % 2 ≡ v % 2
odd_bit u v e =
    elim (cases_Bool (u % 2 == 1)) [
      | inl one ↦ let a = eqb-true (u % 2) 1 one in let b = eqb-true (v % 2) 1 (sym e ∙ one) in omega arith
      | inr off ↦ let a = eqb-false (u % 2) 1 off in let b = eqb-false (v % 2) 1 (sym e ∙ off) in omega arith
    ]

-- the bits fix the number
same_bits : (t u v : ℕ) → u < 2 ^ t → v < 2 ^ t → ((i : ℕ) → i < t → bit u i ≡ bit v i) → u ≡ v
same_bits zero u v hu hv same = omega arith
same_bits (suc t) u v hu hv same =
    let half = same_bits t (u / 2) (v / 2) (omega arith) (omega arith)
    (λ i h. bit_next u i ∙ same (suc i) (omega arith) ∙ sym (bit_next v i))
    in
    let low : u % 2 ≡ v % 2 =
    odd_bit u v (ap (λ x. nat_eq (x % 2) 1) (sym (div-one u)) ∙ same 0 (omega arith) ∙ ap (λ x. nat_eq (x % 2) 1) (div-one v))
    in
    omega arith

-- of two numbers with as many ones, the first has a one that the second lacks
lacks : (t u v : ℕ) → u < 2 ^ t → v < 2 ^ t → half_ones t u ≡ true → half_ones t v ≡ true → (u ≢ v)
    → (i : ℕ) × (i < t) × (bit u i ≡ true) × (bit v i ≡ false)
lacks t u v hu hv ou ov ne =
    let test = λ (i : ℕ). bit u i && not (bit v i) in
    elim (cases_Bool (some test t)) [
      | inl found ↦
          let r = some_where test t found in
          let parts = and_parts (bit u r.0) (not (bit v r.0)) r.2 in
          (r.0, r.1, parts.0, not-true (bit v r.0) parts.1)
      | inr never ↦
          let inside : (i : ℕ) → i < t → bit u i ≡ true → bit v i ≡ true =
          λ i h e. elim (cases_Bool (bit v i)) [
            | inl k ↦ k
            | inr k ↦ absurd (both_ways (some test t) never (some_here test t i h (and_from (bit u i) (not (bit v i)) e (rw k refl))))
          ]
          in
          let cu = eqb-true (count (bit u) t) (t / 2) ou in
          let cv = eqb-true (count (bit v) t) (t / 2) ov in
          absurd (ne (same_bits t u v hu hv (count_same (bit u) (bit v) t inside (omega arith))))
    ]

module _ (t : ℕ) (two : 2 ≤ t) where
  -- block j's number
  word : (j : ℕ) → 1 ≤ j → j ≤ count (half_ones t) (2 ^ t) → (v : ℕ) × (v < 2 ^ t) × (half_ones t v ≡ true) × (count (half_ones t) v ≡ j - 1)
  word j j1 jn = nth (half_ones t) (2 ^ t) (j - 1) (omega arith)

  pub held : (j v i : ℕ) → v < 2 ^ t → half_ones t v ≡ true → count (half_ones t) v ≡ j - 1 → bit v i ≡ true → halves_held t (i + 1) j ≡ true
  held j v i hv ones rank e =
      let at : i + 1 - 1 ≡ i = omega arith in
      some_here (λ w. jth_half t j w && bit w (i + 1 - 1)) (2 ^ t) v hv
      (and_from (jth_half t j v) (bit v (i + 1 - 1))
      (and_from (half_ones t v) (count (half_ones t) v == j - 1) ones (eq-eqb (count (half_ones t) v) (j - 1) rank))
      (ap (bit v) at ∙ e))

  pub not_held : (j v i : ℕ) → half_ones t v ≡ true → count (half_ones t) v ≡ j - 1 → bit v i ≡ false → halves_held t (i + 1) j ≡ false
  not_held j v i ones rank e =
      let at : i + 1 - 1 ≡ i = omega arith in
      none_there (λ w. jth_half t j w && bit w (i + 1 - 1)) (2 ^ t)
      (λ w hw. elim (cases_Bool (jth_half t j w)) [
        | inl k ↦
            let parts = and_parts (half_ones t w) (count (half_ones t) w == j - 1) k in
            let same : w ≡ v = nth_one (half_ones t) w v parts.0 ones (eqb-true (count (half_ones t) w) (j - 1) parts.1 ∙ sym rank) in
            and_right (jth_half t j w) (bit w (i + 1 - 1)) (ap (λ x. bit w x) at ∙ ap (λ x. bit x i) same ∙ e)
        | inr k ↦ and_left (jth_half t j w) (bit w (i + 1 - 1)) k
      ])

  half_row : (j : ℕ) → 1 ≤ j → j ≤ count (half_ones t) (2 ^ t) → (others : List ℕ) → length others ≤ 1 → Beside (count (half_ones t) (2 ^ t)) j others
      → (i : ℕ) × ((1 ≤ i) × (i ≤ t) × (halves_held t i j ≡ true) × NoneIn (halves_held t) i others)
  half_row j j1 jn [] few b =
      let v = word j j1 jn in
      let ones = eqb-true (count (bit v.0) t) (t / 2) v.2 in
      let i = passes_somewhere (bit v.0) t (omega arith) in
      (i.0 + 1, (omega arith, omega (arith, i.1), held j v.0 i.0 v.1 v.2 v.3 i.2, tt))
  half_row j j1 jn (m ∷ []) few b =
      let v = word j j1 jn in
      let w = word m b.0.0 b.0.1 in
      let differ : v.0 ≡ w.0 → ⊥ = λ e.
      let ranks : j - 1 ≡ m - 1 = sym v.3 ∙ ap (count (half_ones t)) e ∙ w.3 in
      b.0.2 (omega (arith, b.0.0))
      in
      let i = lacks t v.0 w.0 v.1 w.1 v.2 w.2 differ in
      (i.0 + 1, (omega arith, omega (arith, i.1), held j v.0 i.0 v.1 v.2 v.3 i.2, (not_held m w.0 i.0 w.2 w.3 i.3, tt)))
  half_row j j1 jn (m ∷ l ∷ ms) few b = absurd (omega arith)

pub limits_counted : LimitsCounted
limits_counted = (refl, (refl, (refl, (refl, (refl, (refl, (refl, (refl, (refl, (refl, (refl, tt)))))))))))

abbrev pub Reached : ℕ → List ℕ → Type 0
Reached n [] = ⊥
Reached n (l ∷ ls) = (n ≤ l) ⊎ Reached n ls

pub enough : (n : ℕ) (ls : List ℕ) (t : ℕ) → 2 ≤ t → Counted t ls → Reached n ls
    → (2 ≤ first_limit ls t n) × (n ≤ count (half_ones (first_limit ls t n)) (2 ^ first_limit ls t n))
enough n [] t h e r = absurd r
enough n (l ∷ ls) t h e r =
    elim (cases_Bool (nat_le n l)) [
      | inl le ↦
          let below = leb-true n l le in
          rw le (h, omega (arith, e.0))
      | inr gt ↦
          let above = leb-false n l gt in
          let later : Reached n ls = elim r [ inl here ↦ absurd (omega arith) | inr k ↦ k ] in
          rw gt (enough n ls (suc t) (omega arith) e.1 later)
    ]

pub all_reached : (n : ℕ) → n ≤ 924 → Reached n limits
all_reached n h = inr (inr (inr (inr (inr (inr (inr (inr (inr (inr (inl h))))))))))

-- the first limit that is high enough stands in the list
reached_range : (n : ℕ) (ls : List ℕ) (t : ℕ) → Reached n ls → (t ≤ first_limit ls t n) × (first_limit ls t n < t + length ls)
reached_range n [] t r = absurd r
reached_range n (l ∷ ls) t r =
    elim (cases_Bool (nat_le n l)) [
      | inl le ↦ rw le (omega arith, omega arith)
      | inr gt ↦
          let above = leb-false n l gt in
          let later : Reached n ls = elim r [ inl here ↦ absurd (omega arith) | inr k ↦ k ] in
          let ih = reached_range n ls (suc t) later in
          rw gt (omega (arith, ih.0), omega (arith, ih.1))
    ]

pub rows_range : (n : ℕ) → n ≤ 924 → (2 ≤ halves_rows n) × (halves_rows n ≤ 12)
unfolding halves_rows
rows_range n h = let r = reached_range n limits 2 (all_reached n h) in (r.0, omega (arith, r.1))

-- as many numbers as blocks
pub rows_suffice : (n : ℕ) → n ≤ 924 → n ≤ count (half_ones (halves_rows n)) (2 ^ halves_rows n)
unfolding halves_rows
rows_suffice n h = (enough n limits 2 (omega arith) limits_counted (all_reached n h)).1

pub halves_cover_free : HalvesCoverFree
halves_cover_free n h =
    let t = halves_rows n in
    cover_bounded n t 1 (halves_held t)
    (cover_fewer n (count (half_ones t) (2 ^ t)) t 1 (halves_held t) (rows_suffice n h) (record { some_row = half_row t (rows_range n h).0 }))
