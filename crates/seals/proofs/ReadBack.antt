-- The seal part as it is written reads back as what was sealed.
use Rattle.std.proofs.Common.{◌≡◌, ℕ, zero, suc, ◌+◌, ◌-◌, ◌*◌, ◌/◌, ◌%◌, ◌<◌, ◌≤◌, true, List, ◌++◌, length, take, drop, sym, refl, ap, ◌∙◌, ap₂, add-zero, arith}
use Rattle.std.proofs.lemmas.List.{append_assoc, length-append, take_at, drop_at, drop-drop, get_or_at, get_or-append-add}
use Rattle.std.proofs.lemmas.Bool.{and_from, le-leb, lt-ltb, eq-eqb}
use Rattle.digests.specs.Strings.{Bytes}
use Rattle.seals.specs.Images.{two_bytes, row_image, whole_image}
use Rattle.seals.specs.Scheme.{Scheme, Inspection}
use Rattle.seals.specs.Part.{word, part_blocks, part_strength, part_rows, text_length, to_512, is_seal_part, seal_number, signed_text, signature_of, row_digest, whole_digest, digests_of_rows, seal_head, text_to_sign, seal_part}
use Rattle.seals.specs.Calls.{same_family, same_scheme}
use Rattle.seals.proofs.Established.{Written, Established}
use Rattle.seals.proofs.Framing.{word_value}

module _ (s : Scheme) (size : (b : Bytes) → length (s.digest b) ≡ 32) (bs : List Bytes) where
  -- each digest has 32 bytes
  length_digests : (from count : ℕ) → length (digests_of_rows s bs from count) ≡ 32 * count
  unfolding digests_of_rows
  length_digests from zero = refl
  length_digests from (suc count) =
      length-append (s.digest (row_image s.family.holds from bs)) (digests_of_rows s bs (suc from) count)
      ∙ omega (arith, size (row_image s.family.holds from bs), length_digests (suc from) count)

  -- the digest of a row stands at its place
  digest_at : (from count k : ℕ) (rest : Bytes) → k < count
      → take 32 (drop (32 * k) (digests_of_rows s bs from count ++ rest)) ≡ s.digest (row_image s.family.holds (from + k) bs)
  unfolding digests_of_rows
  digest_at from zero k rest h = absurd (omega arith)
  digest_at from (suc count) zero rest h =
      rw (append_assoc, add-zero from) (take_at _ _ 32 (size (row_image s.family.holds from bs)))
  digest_at from (suc count) (suc k) rest h =
      let first = s.digest (row_image s.family.holds from bs) in
      let others = digests_of_rows s bs (suc from) count in
      let step : drop (32 * suc k) ((first ++ others) ++ rest) ≡ drop (32 * k) (others ++ rest)
      = ap (λ (n : ℕ). drop n ((first ++ others) ++ rest)) (mul_step k) ∙ sym (drop-drop (32 * k) 32 ((first ++ others) ++ rest))
      ∙ ap (drop (32 * k)) (ap (drop 32) (append_assoc first others rest) ∙ drop_at first (others ++ rest) 32 (size _)) in
      ap (take 32) step ∙ digest_at (suc from) count k rest (omega arith) ∙ ap (λ (n : ℕ). s.digest (row_image s.family.holds n bs)) (omega arith)
    where
      mul_step : (k : ℕ) → 32 * suc k ≡ 32 + 32 * k
      mul_step k = omega arith

to_512_yes : (x : ℕ) → 1 ≤ x → x ≤ 512 → to_512 x ≡ true
unfolding to_512
to_512_yes x low high = and_from _ _ (le-leb 1 x low) (le-leb x 512 high)

module _ (s : Scheme) (own : Inspection) (number : ℕ) (bs : List Bytes) (signature : Bytes) (h : Written s own number bs signature) where
  -- the seal part
  part : Bytes
  part = seal_part s own.kind number bs signature

  length_text : length (text_to_sign s own.kind number bs) ≡ 48 + 32 * s.family.rows
  unfolding text_to_sign seal_head
  length_text =
      let digests = length-append (digests_of_rows s bs 1 s.family.rows) (s.digest (whole_image bs)) in
      omega (arith, digests, length_digests s h.digest_size bs 1 s.family.rows, h.digest_size (whole_image bs))

  pub length_part : length (seal_part s own.kind number bs signature) ≡ 50 + (32 * s.family.rows + length signature)
  unfolding part seal_part
  length_part = length-append (text_to_sign s own.kind number bs) (two_bytes (length signature) ++ signature) ∙ omega (arith, length_text)

  -- what is read of it, place by place
  blocks_read : part_blocks part ≡ s.family.blocks
  unfolding part seal_part text_to_sign seal_head word
  blocks_read = word_value s.family.blocks (omega arith)

  strength_read : part_strength part ≡ s.family.strength
  unfolding part seal_part text_to_sign seal_head word
  strength_read = word_value s.family.strength (omega arith)

  rows_read : part_rows part ≡ s.family.rows
  unfolding part seal_part text_to_sign seal_head word
  rows_read = word_value s.family.rows (omega arith)

  size_read : word part (text_length part) ≡ length signature
  unfolding part seal_part word
  size_read = ap (word part) (ap (λ (n : ℕ). 48 + 32 * n) rows_read ∙ sym length_text)
      ∙ ap₂ (λ (a b : ℕ). a * 256 + b) (get_or_at (text_to_sign s own.kind number bs) _ _ 0 _ refl) (get_or-append-add (text_to_sign s own.kind number bs) _ 1 0)
      ∙ word_value (length signature) (omega (arith, h.signature_fits))

  number_read : seal_number part ≡ number
  unfolding part seal_part text_to_sign seal_head word seal_number
  number_read =
      ap₂ (λ (a b : ℕ). a * 65536 + b) (word_value (number / 65536) (omega (arith, h.number_fits))) (word_value (number % 65536) (omega arith))
      ∙ omega arith

  part_formed : is_seal_part part ≡ true
  unfolding is_seal_part part seal_part text_to_sign seal_head
  part_formed =
      and_from _ _ (to_512_yes (part_blocks part) (omega (arith, blocks_read)) (omega (arith, blocks_read)))
      (and_from _ _ (to_512_yes (part_rows part) (omega (arith, rows_read)) (omega (arith, rows_read)))
      (and_from _ _ (to_512_yes (part_strength part) (omega (arith, strength_read)) (omega (arith, strength_read)))
      (and_from _ _ (lt-ltb 0 s.family.kind h.lawful.kind_range.0)
      (and_from _ _ (lt-ltb 0 s.digest_kind h.digest_named)
      (and_from _ _ (lt-ltb 0 own.kind h.sealer_named)
      (and_from _ _ refl (eq-eqb (length part) _ (omega (arith, length_part, rows_read, size_read)))))))))

  text_read : signed_text part ≡ text_to_sign s own.kind number bs
  unfolding signed_text part seal_part
  text_read = ap (λ (n : ℕ). take (48 + 32 * n) part) rows_read ∙ take_at (text_to_sign s own.kind number bs) _ _ length_text

  signature_read : signature_of part ≡ signature
  unfolding signature_of part seal_part
  signature_read =
      ap (λ (n : ℕ). drop n part) places ∙ sym (drop-drop 2 (48 + 32 * s.family.rows) part)
      ∙ ap (drop 2) (drop_at (text_to_sign s own.kind number bs) (two_bytes (length signature) ++ signature) _ length_text)
    where
      places : 48 + 32 * part_rows part + 2 ≡ 48 + 32 * s.family.rows + 2
      places = omega (arith, rows_read)

  behind_digests : Bytes
  behind_digests = two_bytes (length signature) ++ signature

  -- behind the head stand the digests
  drop_head : (n : ℕ) → drop (16 + n) part ≡ drop n (digests_of_rows s bs 1 s.family.rows ++ (s.digest (whole_image bs) ++ behind_digests))
  unfolding part seal_part text_to_sign seal_head behind_digests
  drop_head n =
      sym (drop-drop n 16 part)
      ∙ ap (drop n) (append_assoc (digests_of_rows s bs 1 s.family.rows) (s.digest (whole_image bs)) (two_bytes (length signature) ++ signature))

  row_read : (i : ℕ) → 1 ≤ i → i ≤ s.family.rows → row_digest part i ≡ s.digest (row_image s.family.holds i bs)
  unfolding row_digest
  row_read i p q =
      ap (take 32) (drop_head (32 * (i - 1)))
      ∙ digest_at s h.digest_size bs 1 s.family.rows (i - 1) _ (omega arith)
      ∙ ap (λ (n : ℕ). s.digest (row_image s.family.holds n bs)) (omega arith)

  whole_read : whole_digest part ≡ s.digest (whole_image bs)
  unfolding whole_digest
  whole_read =
      ap (take 32) (drop_head (32 * part_rows part)
      ∙ drop_at (digests_of_rows s bs 1 s.family.rows) _ _ (length_digests s h.digest_size bs 1 s.family.rows ∙ ap (λ (n : ℕ). 32 * n) (sym rows_read)))
      ∙ take_at (s.digest (whole_image bs)) _ 32 (h.digest_size _)

  family_read : same_family s.family part ≡ true
  unfolding same_family part seal_part text_to_sign seal_head
  family_read =
      and_from _ _ (eq-eqb (part_blocks part) s.family.blocks blocks_read)
      (and_from _ _ (eq-eqb s.family.kind s.family.kind refl)
      (and_from _ _ (eq-eqb s.family.q s.family.q refl)
      (and_from _ _ (eq-eqb s.family.k s.family.k refl)
      (and_from _ _ (eq-eqb (part_strength part) s.family.strength strength_read) (eq-eqb (part_rows part) s.family.rows rows_read)))))

  scheme_read : same_scheme s part ≡ true
  unfolding same_scheme part seal_part text_to_sign seal_head
  scheme_read = and_from _ _ family_read (eq-eqb s.digest_kind s.digest_kind refl)

  pub sealed_by_part : Established s own (seal_part s own.kind number bs signature) bs
  unfolding part
  sealed_by_part =
      record {
        counted = h.counted;
        fits = h.fits;
        lawful = h.lawful;
        row_digests = row_read;
        whole_digest_is = whole_read;
        formed = part_formed;
        scheme_is = scheme_read;
        same_kind = unfold seal_part text_to_sign seal_head in refl;
        genuine = rw (number_read, text_read, signature_read) h.genuine;
      }
