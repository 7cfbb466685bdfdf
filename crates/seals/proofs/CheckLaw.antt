-- Up to d changed blocks are named exactly; more than d make more than d suspects.
use Rattle.std.proofs.Common.{◌≡◌, ℕ, ◌<◌, ◌≤◌, min, Bool, true, false, not, ◌&&◌, List, [], ◌∷◌, length, Ok, Err, sym, refl, ap, ◌∙◌, inl, inr, arith}
use Rattle.std.proofs.Math.Bool.{not-not}
use Rattle.std.proofs.lemmas.Bool.{both_ways, not-false, not_from_true, not_from_false, and_from, and_left, and_right, le-ltb, lt-ltb, cases_Bool}
use Rattle.answers.specs.declared.Refusal.TheVariants.{TooManySuspects}
use Rattle.digests.specs.Strings.{Bytes}
use Rattle.families.specs.Numbers.{numbers, keep_where}
use Rattle.families.specs.Family.{Rising, touches}
use Rattle.families.proofs.Apart.{has, beside, touched, not_touched}
use Rattle.sheets.specs.Calls.{block_at}
use Rattle.seals.specs.Scheme.{Scheme, Inspection}
use Rattle.seals.specs.Calls.{passes, agrees, suspect, suspects, check_before, check_answer}
use Rattle.seals.specs.Law.{Call, answer, after_all, rows_of_sheet, compares, NotAClash, NoClash, is_changed, changed, is_unclear, unclear, reply, Clear}
use Rattle.seals.specs.Law.Call.{check}
use Rattle.seals.specs.Law.Done.{named}
use Rattle.seals.specs.Law.Image.{whole, row}
use Rattle.seals.proofs.Established.{Established}
use Rattle.seals.proofs.Framing.{Short}
use Rattle.seals.proofs.Answers.{same_true, same_from}
use Rattle.seals.proofs.Numbers.{has_number, number_had, keep_same, keep_more, keep_none, kept, kept_passes, kept_set, any_yes, any_no, any_same, none_touched}
use Rattle.seals.proofs.History.{count_now, fits_now, standing_now, fits_short}
use Rattle.seals.proofs.Rows.{clear_at, count_alike, row_sealed, row_passes, whole_sealed}

module _ (s : Scheme) (own : Inspection) (part : Bytes) (sealed : List Bytes) (h : Established s own part sealed) (cs : List Call) where
  -- the sheet after the calls
  pub now_count : length (after_all sealed cs) ≡ s.family.blocks
  now_count = count_now sealed cs ∙ h.counted

  pub now_short : Short (after_all sealed cs)
  now_short = fits_short (after_all sealed cs) (fits_now sealed cs h.fits)

  -- a block is changed exactly if its present bytes are not its sealed ones
  same_unchanged : (j : ℕ) → 1 ≤ j → block_at (after_all sealed cs) j ≡ block_at sealed j → is_changed s own part sealed cs j ≡ false
  unfolding is_changed
  same_unchanged j p e = not_from_true _ (same_from _ _ (standing_now s own part sealed cs j p ∙ e))

  pub unchanged_same : (j : ℕ) → 1 ≤ j → is_changed s own part sealed cs j ≡ false → block_at (after_all sealed cs) j ≡ block_at sealed j
  unfolding is_changed
  unchanged_same j p t = sym (standing_now s own part sealed cs j p) ∙ same_true _ _ (not-false _ t)

  -- the changed blocks are a set, and each of them lies in it
  pub changed_set : Rising s.family.blocks 0 (changed s own part sealed cs)
  unfolding changed
  changed_set = kept_set (is_changed s own part sealed cs) s.family.blocks 0 s.family.blocks (omega arith)

  pub changed_in : (j : ℕ) → 1 ≤ j → j ≤ s.family.blocks → is_changed s own part sealed cs j ≡ true → has j (changed s own part sealed cs) ≡ true
  unfolding changed
  changed_in j p q t = kept (is_changed s own part sealed cs) j (numbers 1 s.family.blocks) (has_number 1 s.family.blocks j p (omega arith)) t

  unchanged_out : (j : ℕ) → is_changed s own part sealed cs j ≡ false → has j (changed s own part sealed cs) ≡ false
  unfolding changed
  unchanged_out j t =
      elim (cases_Bool (has j (changed s own part sealed cs))) [
        | inl e ↦ absurd (both_ways (is_changed s own part sealed cs j) t (kept_passes (is_changed s own part sealed cs) j (numbers 1 s.family.blocks) e))
        | inr e ↦ e
      ]

  -- a row that holds no changed block has its sealed ones
  untouched_same : (i : ℕ) → touches s.family.holds (changed s own part sealed cs) i ≡ false
      → (m : ℕ) → 1 ≤ m → s.family.holds i m ≡ true → block_at (after_all sealed cs) m ≡ block_at sealed m
  untouched_same i none m p e =
      elim (cases_Bool (is_changed s own part sealed cs m)) [
        | inl t ↦
            absurd (both_ways (touches s.family.holds (changed s own part sealed cs) i) none
            (touched s.family.holds i m (changed s own part sealed cs) (changed_in m p (h.lawful.inside i m e).3 t) e))
        | inr t ↦ unchanged_same m p t
      ]

  -- a row passes exactly if it holds no changed block
  row_passes_untouched : (i : ℕ) → 1 ≤ i → i ≤ s.family.rows → NotAClash s sealed (row i) (after_all sealed cs)
      → passes s part (after_all sealed cs) i ≡ not (touches s.family.holds (changed s own part sealed cs) i)
  row_passes_untouched i p q clear =
      elim (cases_Bool (passes s part (after_all sealed cs) i)) [
        | inl t ↦
            t ∙ sym (not_from_false _ (none_touched s.family.holds i (changed s own part sealed cs)
            (λ m e. let low = (h.lawful.inside i m e).2 in
            unchanged_out m (same_unchanged m low (row_sealed s own part sealed h (after_all sealed cs) i p q now_count now_short clear t m low e)))))
        | inr t ↦
            elim (cases_Bool (touches s.family.holds (changed s own part sealed cs) i)) [
              | inl e ↦ t ∙ sym (not_from_true _ e)
              | inr e ↦
                  absurd (both_ways (passes s part (after_all sealed cs) i) t
                  (row_passes s own part sealed h (after_all sealed cs) i p q now_count (untouched_same i e)))
            ]
      ]

  pub row_fails : (i : ℕ) → 1 ≤ i → i ≤ s.family.rows → NotAClash s sealed (row i) (after_all sealed cs)
      → not (passes s part (after_all sealed cs) i) ≡ touches s.family.holds (changed s own part sealed cs) i
  row_fails i p q clear = ap not (row_passes_untouched i p q clear) ∙ not-not _

  -- each row of a changed block holds a changed one
  changed_unclear : (j : ℕ) → 1 ≤ j → j ≤ s.family.blocks → is_changed s own part sealed cs j ≡ true → is_unclear s own part sealed cs j ≡ true
  unfolding is_unclear
  changed_unclear j p q t =
      not_from_false _ (any_no _ (numbers 1 s.family.rows) (λ i a. elim (cases_Bool (s.family.holds i j)) [
        | inl e ↦ and_right (s.family.holds i j) _ (not_from_true _ (touched s.family.holds i j (changed s own part sealed cs) (changed_in j p q t) e))
        | inr e ↦ and_left (s.family.holds i j) _ e
      ]))

  -- while at most d blocks are changed, some row of every other one holds none of them
  unchanged_clear : length (changed s own part sealed cs) ≤ s.family.strength
      → (j : ℕ) → 1 ≤ j → j ≤ s.family.blocks → is_changed s own part sealed cs j ≡ false → is_unclear s own part sealed cs j ≡ false
  unfolding is_unclear
  unchanged_clear few j p q t =
      let all = changed s own part sealed cs in
      let found = h.lawful.covers.some_row j p q all few (beside s.family.blocks 0 j all changed_set (unchanged_out j t)) in
      not_from_true _ (any_yes _ found.0 (numbers 1 s.family.rows) (has_number 1 s.family.rows found.0 found.1.0 (omega (arith, found.1.1)))
      (and_from _ _ found.1.2 (not_from_false _ (not_touched s.family.holds found.0 all found.1.3))))

  unclear_changed : length (changed s own part sealed cs) ≤ s.family.strength → unclear s own part sealed cs ≡ changed s own part sealed cs
  unfolding unclear changed
  unclear_changed few =
      keep_same _ _ (numbers 1 s.family.blocks) (λ j a.
      let at = number_had 1 s.family.blocks j a in
      let high : j ≤ s.family.blocks = omega (arith, at.1) in
      elim (cases_Bool (is_changed s own part sealed cs j)) [
        | inl t ↦ changed_unclear j at.0 high t ∙ sym t
        | inr t ↦ unchanged_clear few j at.0 high t ∙ sym t
      ])

  unclear_more : length (changed s own part sealed cs) ≤ length (unclear s own part sealed cs)
  unfolding unclear changed
  unclear_more =
      keep_more _ _ (numbers 1 s.family.blocks) (λ j a t.
      let at = number_had 1 s.family.blocks j a in changed_unclear j at.0 (omega (arith, at.1)) t)

  -- the images that a check with room compares: the whole, and every row where the whole differs
  Compared : Bool → Type 0
  Compared agree = NoClash s sealed ((whole, after_all sealed cs) ∷ elim agree [ true ↦ [] | false ↦ rows_of_sheet (after_all sealed cs) (numbers 1 s.family.rows) ])

  compared : (room : ℕ) → min s.family.strength s.family.blocks ≤ room → Clear s own part sealed cs (check room) → Compared (agrees s part (after_all sealed cs))
  unfolding compares Compared check_before
  compared room r clear =
      rw (h.scheme_is, count_alike s own part sealed h (after_all sealed cs) now_count, le-ltb room (min s.family.strength s.family.blocks) r, compares) at clear

  -- where the whole agrees, no block is changed
  whole_unchanged : Compared true → agrees s part (after_all sealed cs) ≡ true → changed s own part sealed cs ≡ []
  unfolding changed Compared
  whole_unchanged c t =
      keep_none _ (numbers 1 s.family.blocks) (λ j a.
      let low = (number_had 1 s.family.blocks j a).0 in
      same_unchanged j low (whole_sealed s own part sealed h (after_all sealed cs) now_count now_short c.0 t j low))

  -- the suspects are the blocks each of whose rows holds a changed one
  suspects_unclear : Compared (agrees s part (after_all sealed cs)) → suspects s part (after_all sealed cs) ≡ unclear s own part sealed cs
  unfolding suspects unclear is_unclear suspect Compared
  suspects_unclear c = go (agrees s part (after_all sealed cs)) refl c
    where
      go : (t : Bool) → agrees s part (after_all sealed cs) ≡ t → Compared t
          → ◌≡◌ {A = List ℕ} (elim t [ true ↦ [] | false ↦ keep_where (suspect s part (after_all sealed cs)) (numbers 1 s.family.blocks) ]) (unclear s own part sealed cs)
      go true e c =
          let none = whole_unchanged c e in
          sym (unclear_changed (omega (arith, ap length none)) ∙ none)
      go false e c =
          keep_same _ _ (numbers 1 s.family.blocks) (λ j a. ap not
          (any_same _ _ (numbers 1 s.family.rows) (λ i b.
          let at = number_had 1 s.family.rows i b in
          ap (λ z. s.family.holds i j && z)
          (row_passes_untouched i at.0 (omega (arith, at.1)) (clear_at s sealed (after_all sealed cs) (numbers 1 s.family.rows) c.1 i b)))))

  -- where a check with room meets no clash, a row fails exactly if it holds a changed block: the check compares every row, or no block is changed
  pub check_fails : (room : ℕ) → min s.family.strength s.family.blocks ≤ room → Clear s own part sealed cs (check room)
      → (i : ℕ) → 1 ≤ i → i ≤ s.family.rows → not (passes s part (after_all sealed cs) i) ≡ touches s.family.holds (changed s own part sealed cs) i
  unfolding Compared
  check_fails room r clear i p q = go (agrees s part (after_all sealed cs)) refl (compared room r clear)
    where
      go : (t : Bool) → agrees s part (after_all sealed cs) ≡ t → Compared t
          → not (passes s part (after_all sealed cs) i) ≡ touches s.family.holds (changed s own part sealed cs) i
      go true e c =
          let none : touches s.family.holds (changed s own part sealed cs) i ≡ false = rw (whole_unchanged c e) refl in
          ap not (row_passes s own part sealed h (after_all sealed cs) i p q now_count (untouched_same i none)) ∙ sym none
      go false e c = row_fails i p q (clear_at s sealed (after_all sealed cs) (numbers 1 s.family.rows) c.1 i (has_number 1 s.family.rows i p (omega arith)))

  pub check_suspects : (room : ℕ) → min s.family.strength s.family.blocks ≤ room → Clear s own part sealed cs (check room)
      → suspects s part (after_all sealed cs) ≡ unclear s own part sealed cs
  check_suspects room r clear = suspects_unclear (compared room r clear)

  -- what a check answers: the changed blocks, or how many suspects there are
  pub check_names : (room : ℕ) → min s.family.strength s.family.blocks ≤ room → Clear s own part sealed cs (check room)
      → length (changed s own part sealed cs) ≤ s.family.strength → reply s own part sealed cs (check room) ≡ Ok (named (changed s own part sealed cs))
  unfolding answer check_answer check_before
  check_names room r clear few =
      let found = suspects_unclear (compared room r clear) ∙ unclear_changed few in
      rw (h.scheme_is, count_alike s own part sealed h (after_all sealed cs) now_count, le-ltb room (min s.family.strength s.family.blocks) r, found, le-ltb s.family.strength (length (changed s own part sealed cs)) few)

  pub check_refuses : (room : ℕ) → min s.family.strength s.family.blocks ≤ room → Clear s own part sealed cs (check room)
      → s.family.strength < length (changed s own part sealed cs)
      → reply s own part sealed cs (check room) ≡ Err (TooManySuspects (length (unclear s own part sealed cs)))
  unfolding answer check_answer check_before
  check_refuses room r clear many =
      let found = suspects_unclear (compared room r clear) in
      let more = unclear_more in
      rw (h.scheme_is, count_alike s own part sealed h (after_all sealed cs) now_count, le-ltb room (min s.family.strength s.family.blocks) r, found, lt-ltb s.family.strength (length (unclear s own part sealed cs)) (omega arith))
