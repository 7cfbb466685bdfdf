-- A confirm that succeeds is for sealed bytes, and the excerpt of a row that vouched is confirmed.
use Rattle.std.proofs.Common.{◌≡◌, ℕ, ◌≤◌, Bool, true, not, ◌⊎◌, List, [], ◌∷◌, ◌++◌, length, Ok, Err, Result, sym, refl, ap, ◌∙◌, inl, inr, arith}
use Rattle.std.proofs.lemmas.Bool.{cases_eq, and_from, and_parts, ltb-false, le-ltb, eqb-false, ne_eqb, not_from_false, not-true, not-false}
use Rattle.answers.specs.declared.Refusal.{Refusal}
use Rattle.answers.specs.declared.Refusal.TheVariants.{RowDiffers}
use Rattle.digests.specs.Strings.{Bytes, same}
use Rattle.sheets.specs.Calls.{block_at, with_block}
use Rattle.seals.specs.Images.{framed_blocks, row_image, row_rest}
use Rattle.seals.specs.Scheme.{Scheme, Inspection}
use Rattle.seals.specs.Calls.{same_family, same_scheme, same_count, passes, excerpt_answer, all_short, rest_blocks, is_excerpt, confirm_before, confirm_answer}
use Rattle.seals.specs.Law.{Call, done_as, answer, after, after_all, events, NoRewrite, Succeeds, compares, NotAClash, reply, Clear}
use Rattle.seals.specs.Law.Call.{vouch, excerpt, confirm}
use Rattle.seals.specs.Law.Done.{vouched, excerpted, confirmed}
use Rattle.seals.specs.Law.Image.{row}
use Rattle.seals.proofs.Established.{Established}
use Rattle.seals.proofs.Framing.{Short, image_fixed}
use Rattle.seals.proofs.Answers.{was_answered, same_true}
use Rattle.seals.proofs.History.{block_range, block_there, length_with, block_with_same, block_with_other, after_joined, sheet_kept}
use Rattle.seals.proofs.Rows.{alike_blocks, blocks_alike, short_with, family_alike, count_alike, row_sealed}
use Rattle.seals.proofs.CheckLaw.{now_count, now_short}
use Rattle.seals.proofs.VouchLaw.{vouch_found, found_row}
use Rattle.seals.proofs.ExcerptLaw.{blanked, length_blanked, blanked_alike, length_unframed, all_short_short, is_other, rest_of_excerpt, framing_excerpt}

module _ (s : Scheme) (own : Inspection) (part : Bytes) where
  -- the cause that is looked at last
  confirm_last : ℕ → ℕ → Bytes → Bytes → List (Bool × Refusal)
  confirm_last j i v e = (not (passes s part (with_block (rest_blocks s.family j i e) j v) i), RowDiffers) ∷ []

  -- what a confirm that succeeds has seen
  record Seen (j i : ℕ) (v e : Bytes) : Type 0 where
    alike : same_scheme s part ≡ true
    from_one : 1 ≤ j
    to_count : j ≤ s.family.blocks
    short : length v ≤ 38912
    held : s.family.holds i j ≡ true
    exact : same (row_rest s.family.holds i j (rest_blocks s.family j i e)) e ≡ true
    all : all_short (rest_blocks s.family j i e) ≡ true
    passed : passes s part (with_block (rest_blocks s.family j i e) j v) i ≡ true

  confirm_seen : (bs : List Bytes) (j i : ℕ) (v e : Bytes) → Succeeds (answer s own part bs (confirm j i v e)) → Seen j i v e
  unfolding answer confirm_answer confirm_before confirm_last is_excerpt
  confirm_seen bs j i v e h = go (confirm_answer s part j i v e) refl h
    where
      go : (r : Result (Unit {0}) Refusal) → confirm_answer s part j i v e ≡ r → Succeeds (done_as (λ _. confirmed) r) → Seen j i v e
      go (Err x) c k = absurd k
      go (Ok u) c k =
          let all = (was_answered (confirm_before s part j i v e ++ confirm_last j i v e) tt u c).0 in
          let w = all.1 in
          let at = block_range s.family.blocks j w.0 in
          let framing = and_parts _ _ (not-false _ w.1.1.1.0) in
          record {
            alike = not-false _ all.0;
            from_one = at.0;
            to_count = at.1;
            short = ltb-false 38912 (length v) w.1.0;
            held = not-false _ w.1.1.0;
            exact = framing.0;
            all = framing.1;
            passed = not-false _ w.1.1.1.1.0;
          }

  -- and a confirm that sees it succeeds
  confirm_done : (bs : List Bytes) (j i : ℕ) (v e : Bytes) → Seen j i v e → answer s own part bs (confirm j i v e) ≡ Ok confirmed
  unfolding answer confirm_answer confirm_before is_excerpt
  confirm_done bs j i v e c =
      rw (c.alike, block_there s.family.blocks j c.from_one c.to_count, le-ltb 38912 (length v) c.short, c.held, c.exact, c.all, c.passed)

  -- an excerpt into enough room
  excerpt_done : (bs : List Bytes) (j i room : ℕ) → same_family s.family part ≡ true → same_count bs part ≡ true → 1 ≤ j → j ≤ length bs
      → s.family.holds i j ≡ true → length (row_rest s.family.holds i j bs) ≤ room → answer s own part bs (excerpt j i room) ≡ Ok (excerpted (row_rest s.family.holds i j bs))
  unfolding answer excerpt_answer
  excerpt_done bs j i room f c p q e l = rw (f, c, block_there (length bs) j p q, e, le-ltb room (length (row_rest s.family.holds i j bs)) l)

  -- the excerpt of a row that passes with the offered bytes is confirmed with them
  excerpt_seen : (bs : List Bytes) (j i : ℕ) (v : Bytes) → same_scheme s part ≡ true → length bs ≡ s.family.blocks → Short bs
      → 1 ≤ j → j ≤ s.family.blocks → length v ≤ 38912 → s.family.holds i j ≡ true → passes s part (with_block bs j v) i ≡ true → Seen j i v (row_rest s.family.holds i j bs)
  unfolding row_rest passes row_image
  excerpt_seen bs j i v both l h p q small held passed =
      let others = blanked (is_other s.family i j) 1 bs in
      let back = rest_of_excerpt s.family bs j i l h in
      let count = length_blanked (is_other s.family i j) 1 bs in
      let image : framed_blocks (s.family.holds i) 1 (with_block others j v) ≡ framed_blocks (s.family.holds i) 1 (with_block bs j v)
      = image_fixed (s.family.holds i) 1 (with_block others j v) (with_block bs j v) (length_with others j v ∙ count ∙ sym (length_with bs j v))
      (blocks_alike (s.family.holds i) (with_block others j v) (with_block bs j v) (λ m a e. at m a e (cases_eq m j))) in
      record {
        alike = both;
        from_one = p;
        to_count = q;
        short = small;
        held = held;
        exact = (framing_excerpt s.family bs j i l h).0;
        all = (framing_excerpt s.family bs j i l h).1;
        passed = rw (back, image) passed;
      }
    where
      at : (m : ℕ) → 1 ≤ m → s.family.holds i m ≡ true → (m ≡ j) ⊎ (m ≡ j → ⊥)
          → block_at (with_block (blanked (is_other s.family i j) 1 bs) j v) m ≡ block_at (with_block bs j v) m
      at m a e (inl d) =
          rw d (block_with_same (blanked (is_other s.family i j) 1 bs) j v p (omega (arith, length_blanked (is_other s.family i j) 1 bs)) ∙ sym (block_with_same bs j v p (omega arith)))
      at m a e (inr d) =
          block_with_other (blanked (is_other s.family i j) 1 bs) j m v p a d
          ∙ alike_blocks (is_other s.family i j) (blanked (is_other s.family i j) 1 bs) bs (blanked_alike (is_other s.family i j) 1 bs) m a (and_from _ _ e (not_from_false _ (ne_eqb m j d)))
          ∙ sym (block_with_other bs j m v p a d)

module _ (s : Scheme) (own : Inspection) (part : Bytes) (sealed : List Bytes) (h : Established s own part sealed) (cs : List Call) where
  -- a confirm that succeeds is for the sealed bytes, and its excerpt is that of the sealed sheet
  pub confirmed_sealed : (j i : ℕ) (v e : Bytes) → Clear s own part sealed cs (confirm j i v e)
      → Succeeds (reply s own part sealed cs (confirm j i v e))
      → (v ≡ block_at sealed j)
      × ((m : ℕ) → 1 ≤ m → s.family.holds i m ≡ true → (m ≡ j → ⊥) → block_at (rest_blocks s.family j i e) m ≡ block_at sealed m)
      × (e ≡ row_rest s.family.holds i j sealed)
  unfolding compares confirm_before row_rest rest_blocks is_excerpt
  confirmed_sealed j i v e clear k =
      let c = confirm_seen s own part (after_all sealed cs) j i v e k in
      let others = rest_blocks s.family j i e in
      let count : length others ≡ s.family.blocks = length_unframed (is_other s.family i j) 1 s.family.blocks e in
      let clear_row : NotAClash s sealed (row i) (with_block others j v) =
      (rw (c.alike, block_there s.family.blocks j c.from_one c.to_count, le-ltb 38912 (length v) c.short, c.held, c.exact, c.all, compares) at clear).0 in
      let inside = h.lawful.inside i j c.held in
      let same_block : (m : ℕ) → 1 ≤ m → s.family.holds i m ≡ true → block_at (with_block others j v) m ≡ block_at sealed m
      = row_sealed s own part sealed h (with_block others j v) i inside.0 inside.1 (length_with others j v ∙ count)
      (short_with others j v c.from_one (omega (arith, c.to_count)) (all_short_short others c.all) c.short) clear_row c.passed in (
        sym (block_with_same others j v c.from_one (omega (arith, c.to_count))) ∙ same_block j c.from_one c.held,
        λ m a t d. sym (block_with_other others j m v c.from_one a d) ∙ same_block m a t,
        sym (same_true _ _ c.exact) ∙ image_fixed (is_other s.family i j) 1 others sealed (count ∙ sym h.counted)
            (blocks_alike (is_other s.family i j) others sealed
            (λ m a t. sym (block_with_other others j m v c.from_one a (eqb-false m j (not-true _ (and_parts _ _ t).1))) ∙ same_block m a (and_parts _ _ t).0)),
      )

  -- the excerpt of a row that vouched for some bytes is confirmed with them after whatever calls
  pub excerpt_after : (j i n : ℕ) (v : Bytes) → reply s own part sealed cs (vouch j v) ≡ Ok (vouched i n)
      → (mid : List Call) → NoRewrite (events s own part (after_all sealed cs) mid) → (room : ℕ) → n ≤ room
      → (e : Bytes) × ((length e ≡ n) × (reply s own part sealed (cs ++ (vouch j v ∷ mid)) (excerpt j i room) ≡ Ok (excerpted e))
      × ((later : List Call) → reply s own part sealed (cs ++ (vouch j v ∷ (mid ++ (excerpt j i room ∷ later)))) (confirm j i v e) ≡ Ok confirmed))
  unfolding after_all after
  excerpt_after j i n v k mid quiet room enough =
      let bs = after_all sealed cs in
      let f = vouch_found s own part bs j v i n k in
      let r = found_row s own part bs j v i n f in
      let inside = h.lawful.inside i j r.0 in
      let stays : after_all sealed (cs ++ (vouch j v ∷ mid)) ≡ bs
      = after_joined sealed cs (vouch j v ∷ mid) ∙ sheet_kept s own part bs mid quiet in
      let seen = excerpt_seen s own part bs j i v h.scheme_is (now_count s own part sealed h cs) (now_short s own part sealed h cs) f.from_one inside.3 f.short r.0 r.1 in (
        row_rest s.family.holds i j bs,
        (
          f.long,
          ap (λ (z : List Bytes). answer s own part z (excerpt j i room)) stays
              ∙ excerpt_done s own part bs j i room (family_alike s own part sealed h) (count_alike s own part sealed h bs (now_count s own part sealed h cs)) f.from_one f.to_count r.0 (omega (arith, f.long)),
          λ later. confirm_done s own part _ j i v _ seen,
        ),
      )
