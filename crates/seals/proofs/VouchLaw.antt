-- A vouch that succeeds is for the sealed bytes, and the sealed bytes are vouched for while at most d others are changed.
use Rattle.std.proofs.Common.{◌≡◌, ℕ, ◌≤◌, Bool, true, false, not, eqb, ◌↔◌, List, [], ◌∷◌, ◌++◌, length, get_or, Ok, Err, Result, sym, refl, ap, ◌∙◌, inl, inr, arith}
use Rattle.std.proofs.lemmas.Bool.{both_ways, cases_eq, cases_Bool, and_from, ltb-false, le-ltb, eqb-false, eq-eqb, ne_eqb, not_from_true, not_from_false}
use Rattle.answers.specs.declared.Refusal.{Refusal}
use Rattle.answers.specs.declared.Refusal.TheVariants.{NoRowVouches}
use Rattle.digests.specs.Strings.{Bytes}
use Rattle.families.specs.Numbers.{numbers, keep_where}
use Rattle.families.specs.Family.{Beside, Rising, touches}
use Rattle.families.proofs.Apart.{has, beside, touched, not_touched}
use Rattle.sheets.specs.Calls.{block_at, with_block}
use Rattle.seals.specs.Images.{row_rest}
use Rattle.seals.specs.Scheme.{Scheme, Inspection}
use Rattle.seals.specs.Calls.{held_back, passes, vouching, vouch_before, vouch_answer}
use Rattle.seals.specs.Law.{Call, done_as, answer, after_all, Succeeds, up_to_first, rows_of, rows_of_sheet, compares, NoClash, is_changed, changed, changed_beside, reply, Clear}
use Rattle.seals.specs.Law.Call.{vouch}
use Rattle.seals.specs.Law.Done.{vouched}
use Rattle.seals.proofs.Established.{Established}
use Rattle.seals.proofs.Answers.{was_answered, clear_first}
use Rattle.seals.proofs.Numbers.{has_some, has_number, keep_keep, kept, kept_passes, kept_set, first_kept}
use Rattle.seals.proofs.History.{block_range, block_there, length_with, block_with_same, block_with_other}
use Rattle.seals.proofs.Rows.{short_with, clear_at, sealed_short, count_alike, row_sealed, row_passes}
use Rattle.seals.proofs.CheckLaw.{now_count, now_short, unchanged_same, changed_in}

module _ (s : Scheme) (own : Inspection) (part : Bytes) where
  -- what a vouch that succeeds has found
  pub record Found (bs : List Bytes) (j : ℕ) (v : Bytes) (i n : ℕ) : Type 0 where
    pub reached : held_back (vouch_before s part bs j v) ≡ false
    pub from_one : 1 ≤ j
    pub to_count : j ≤ length bs
    pub short : length v ≤ 38912
    pub some : 1 ≤ length (vouching s part bs j v)
    pub row : get_or (vouching s part bs j v) 0 0 ≡ i
    pub long : length (row_rest s.family.holds i j bs) ≡ n

  -- the cause that is looked at last
  vouch_last : List Bytes → ℕ → Bytes → List (Bool × Refusal)
  vouch_last bs j v = (eqb (length (vouching s part bs j v)) 0, NoRowVouches) ∷ []

  pub vouch_found : (bs : List Bytes) (j : ℕ) (v : Bytes) (i n : ℕ) → answer s own part bs (vouch j v) ≡ Ok (vouched i n) → Found bs j v i n
  unfolding answer vouch_answer vouch_before vouch_last
  vouch_found bs j v i n h = go (vouch_answer s part bs j v) refl h
    where
      go : (r : Result (ℕ × ℕ) Refusal) → vouch_answer s part bs j v ≡ r → done_as (λ a. vouched a.0 a.1) r ≡ Ok (vouched i n) → Found bs j v i n
      go (Err e) c k = let z : ◌≡◌ {A = ℕ} 0 1 = cc in absurd (omega arith)
      go (Ok a) c k =
          let w = was_answered (vouch_before s part bs j v ++ vouch_last bs j v) _ a c in
          let at = block_range (length bs) j w.0.1.1.0 in
          let not_empty = eqb-false (length (vouching s part bs j v)) 0 w.0.1.1.1.1.0 in
          let row : get_or (vouching s part bs j v) 0 0 ≡ i = ap (λ (z : ℕ × ℕ). z.0) w.1 ∙ cc in
          record {
            reached = clear_first (vouch_before s part bs j v) (vouch_last bs j v) w.0;
            from_one = at.0;
            to_count = at.1;
            short = ltb-false 38912 (length v) w.0.1.1.1.0;
            some = omega arith;
            row = row;
            long = rw (← row) (ap (λ (z : ℕ × ℕ). z.1) w.1 ∙ cc);
          }

  -- the row that was found holds the block, passes with the offered bytes, and was compared
  pub found_row : (bs : List Bytes) (j : ℕ) (v : Bytes) (i n : ℕ) → Found bs j v i n
      → (s.family.holds i j ≡ true) × (passes s part (with_block bs j v) i ≡ true) × (has i (up_to_first (passes s part (with_block bs j v)) (rows_of s.family j)) ≡ true)
  unfolding vouching rows_of
  found_row bs j v i n f =
      rw f.row at (first_kept (λ i. s.family.holds i j) (passes s part (with_block bs j v)) (numbers 1 s.family.rows) f.some)

module _ (s : Scheme) (own : Inspection) (part : Bytes) (sealed : List Bytes) (h : Established s own part sealed) (cs : List Call) where
  -- the found row had its sealed blocks
  found_sealed : (j i n : ℕ) (v : Bytes) → Clear s own part sealed cs (vouch j v)
      → reply s own part sealed cs (vouch j v) ≡ Ok (vouched i n) → v ≡ block_at sealed j
  unfolding compares
  found_sealed j i n v clear e =
      let bs = after_all sealed cs in
      let f = vouch_found s own part bs j v i n e in
      let r = found_row s own part bs j v i n f in
      let at = h.lawful.inside i j r.0 in
      let clear_rows : NoClash s sealed (rows_of_sheet (with_block bs j v) (up_to_first (passes s part (with_block bs j v)) (rows_of s.family j)))
      = rw (f.reached, compares) at clear in
      sym (block_with_same bs j v f.from_one f.to_count)
      ∙ row_sealed s own part sealed h (with_block bs j v) i at.0 at.1 (length_with bs j v ∙ now_count s own part sealed h cs)
      (short_with bs j v f.from_one f.to_count (now_short s own part sealed h cs) f.short)
      (clear_at s sealed (with_block bs j v) _ clear_rows i r.2) r.1 j f.from_one r.0

  -- a vouch that succeeds is for the sealed bytes, and one for the sealed bytes succeeds
  pub vouched_sealed : (j : ℕ) (v : Bytes) → Clear s own part sealed cs (vouch j v) → Succeeds (reply s own part sealed cs (vouch j v)) → v ≡ block_at sealed j
  unfolding answer
  vouched_sealed j v clear t = go (vouch_answer s part (after_all sealed cs) j v) refl t
    where
      go : (r : Result (ℕ × ℕ) Refusal) → vouch_answer s part (after_all sealed cs) j v ≡ r
          → Succeeds (done_as (λ a. vouched a.0 a.1) r) → v ≡ block_at sealed j
      go (Err e) c k = absurd k
      go (Ok a) c k = found_sealed j a.0 a.1 v clear (rw c)

  -- the changed blocks beside another one
  beside_set : (j : ℕ) → Beside s.family.blocks j (changed_beside s own part sealed j cs)
  unfolding changed_beside changed
  beside_set j =
      let others : ℕ → Bool = λ m. not (eqb m j) in
      let all = changed s own part sealed cs in
      let in_turn = keep_keep (is_changed s own part sealed cs) others (numbers 1 s.family.blocks) in
      let set : Rising s.family.blocks 0 (keep_where others all) = rw in_turn (kept_set _ s.family.blocks 0 s.family.blocks (omega arith)) in
      beside s.family.blocks 0 j (keep_where others all) set
      (elim (cases_Bool (has j (keep_where others all))) [
        | inl e ↦ absurd (both_ways (others j) (not_from_true _ (eq-eqb j j refl)) (kept_passes others j all e))
        | inr e ↦ e
      ])

  -- a row that holds none of them has its sealed blocks once block j has
  untouched_with : (j i : ℕ) (v : Bytes) → 1 ≤ j → j ≤ s.family.blocks → v ≡ block_at sealed j
      → touches s.family.holds (changed_beside s own part sealed j cs) i ≡ false
      → (m : ℕ) → 1 ≤ m → s.family.holds i m ≡ true → block_at (with_block (after_all sealed cs) j v) m ≡ block_at sealed m
  unfolding changed_beside
  untouched_with j i v p q e none m a k =
      elim (cases_eq m j) [
        | inl d ↦ rw d (block_with_same (after_all sealed cs) j v p (omega (arith, now_count s own part sealed h cs)) ∙ e)
        | inr d ↦
            let other = block_with_other (after_all sealed cs) j m v p a d in
            elim (cases_Bool (is_changed s own part sealed cs m)) [
              | inr c ↦ other ∙ unchanged_same s own part sealed h cs m a c
              | inl c ↦
                  let in_all = changed_in s own part sealed h cs m a (h.lawful.inside i m k).3 c in
                  let in_beside = kept (λ x. not (eqb x j)) m (changed s own part sealed cs) in_all (not_from_false _ (ne_eqb m j d)) in
                  absurd (both_ways (touches s.family.holds (changed_beside s own part sealed j cs) i) none (touched s.family.holds i m _ in_beside k))
            ]
      ]

  sealed_vouched : (j : ℕ) (v : Bytes) → 1 ≤ j → j ≤ s.family.blocks → length (changed_beside s own part sealed j cs) ≤ s.family.strength
      → v ≡ block_at sealed j → Succeeds (reply s own part sealed cs (vouch j v))
  unfolding answer vouch_answer vouch_before vouching
  sealed_vouched j v p q few e =
      let bs = after_all sealed cs in
      let count = now_count s own part sealed h cs in
      let found = h.lawful.covers.some_row j p q (changed_beside s own part sealed j cs) few (beside_set j) in
      let i = found.0 in
      let passed : passes s part (with_block bs j v) i ≡ true
      = row_passes s own part sealed h (with_block bs j v) i found.1.0 found.1.1 (length_with bs j v ∙ count)
      (untouched_with j i v p q e (not_touched s.family.holds i (changed_beside s own part sealed j cs) found.1.3)) in
      let some : 1 ≤ length (vouching s part bs j v)
      = has_some i _ (kept _ i (numbers 1 s.family.rows) (has_number 1 s.family.rows i found.1.0 (omega (arith, found.1.1))) (and_from _ _ found.1.2 passed)) in
      let small : length v ≤ 38912 = rw e (sealed_short s own part sealed h _) in
      rw (h.scheme_is, count_alike s own part sealed h bs count, block_there (length bs) j p (omega arith), le-ltb 38912 (length v) small, ne_eqb (length (vouching s part bs j v)) 0 (λ z. omega arith)) tt

  pub vouch_exact : (j : ℕ) (v : Bytes) → 1 ≤ j → j ≤ s.family.blocks → Clear s own part sealed cs (vouch j v)
      → length (changed_beside s own part sealed j cs) ≤ s.family.strength
      → Succeeds (reply s own part sealed cs (vouch j v)) ↔ (v ≡ block_at sealed j)
  vouch_exact j v p q clear few = (vouched_sealed j v clear, sealed_vouched j v p q few)
