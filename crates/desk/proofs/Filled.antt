-- A buffer of just the length of a seal part, or of a file.
use Rattle.std.proofs.Common.{◌≡◌, ℕ, ◌+◌, ◌*◌, not, ◌&&◌, List, [], ◌∷◌, ◌++◌, length, drop, Ok, Err, Result, eqb, ltb, sym, refl, ap, ◌∙◌, arith}
use Rattle.std.specs.Result.{result_map_both}
use Rattle.std.proofs.lemmas.Grind.{common_steps}
use Rattle.std.proofs.lemmas.List.{append-nil, drop_all}
use Rattle.answers.specs.declared.Refusal.{Refusal}
use Rattle.answers.specs.declared.Refusal.TheVariants.{NoRoom, SheetEmpty, NotDrawn, OtherScheme}
use Rattle.answers.specs.Refusals.{on_ok}
use Rattle.digests.specs.Strings.{Bytes, same}
use Rattle.files.proofs.Packed.{frames_size, file_size, made}
use Rattle.files.specs.File.{file_of, pack_answer}
use Rattle.keys.specs.Key.{Key}
use Rattle.seals.proofs.Answers.{was_answered}
use Rattle.seals.specs.Scheme.{Scheme}
use Rattle.seals.specs.Part.{signed_part}
use Rattle.seals.specs.Calls.{seal_answer, part_length, lent_after}
use Rattle.sheets.specs.Calls.{total_bytes}
use Rattle.desk.specs.Made.{part_made}

-- what is written in front of nothing
whole : (xs before : Bytes) → length before ≡ length xs → xs ++ drop (length xs) before ≡ xs
whole xs before e = ap (λ ys. xs ++ ys) (drop_all (length xs) before (omega (arith, e))) ∙ append-nil xs

abbrev ok : Bytes → Result Bytes Refusal
ok xs = Ok xs

module _ (s : Scheme) (kind : ℕ) (key : Key) (signature : ℕ → Bytes → Bytes) (under : Bytes) (number : ℕ) (bs : List Bytes) (out : Bytes)
    (just : length out ≡ part_length s.family.rows key.size) where
  abbrev pub part : Bytes
  part = signed_part s kind (signature number) number bs

  made_by : (r : Result ℕ Refusal) → r ≡ seal_answer s.family key under number bs (length out) → on_ok r (λ _. Ok part) ≡ part_made s kind key signature under number bs
  unfolding part_made
  made_by r e =
      ap (λ (q : Result ℕ Refusal). on_ok q (λ _. Ok part)) e ∙ ap (λ room. on_ok (seal_answer s.family key under number bs room) (λ _. Ok part)) just

  pub refused : (e : Refusal) → Err e ≡ seal_answer s.family key under number bs (length out) → Err e ≡ part_made s kind key signature under number bs
  refused e h = made_by (Err e) h

  -- the length that a seal answers is the buffer's
  long : (n : ℕ) → Ok n ≡ seal_answer s.family key under number bs (length out) → part_length s.family.rows key.size ≡ n
  unfolding seal_answer
  long n h =
      (was_answered
      ((eqb (length bs) 0, SheetEmpty)
      ∷ ((not (eqb s.family.blocks (length bs)), OtherScheme)
      ∷ ((not (same under key.name && ltb number key.next), NotDrawn)
      ∷ ((ltb (length out) (part_length s.family.rows key.size), NoRoom) ∷ []))))
      (part_length s.family.rows key.size) n (sym h)).1

  pub filled : (n : ℕ) (new : Bytes) → Ok n ≡ seal_answer s.family key under number bs (length out) → length part ≡ n → new ≡ part ++ drop (length part) out
      → Ok new ≡ part_made s kind key signature under number bs
  filled n new h size e = ap ok (e ∙ whole part out (omega (arith, just, long n h, size))) ∙ made_by (Ok n) h

-- as many bytes as the frames, the seal part and the trailer have
pub file_room : (bs : List Bytes) (part : Bytes) → 4 * length bs + total_bytes bs + length part + 8 ≡ length (file_of bs part)
file_room bs part = omega (arith, frames_size bs, file_size bs part)

same_refusal : (e f : Refusal) → ◌≡◌ {A = Result ℕ Refusal} (Err e) (Err f) → ◌≡◌ {A = Result Bytes Refusal} (Err e) (Err f)
same_refusal e f h = grind (arith, h, common_steps)

module _ (bs : List Bytes) (part out new : Bytes) (just : length out ≡ length (file_of bs part)) where
  pub packed : (n : ℕ) → Ok n ≡ result_map_both length (λ e. e) (pack_answer bs part (length out)) → new ≡ lent_after (pack_answer bs part (length out)) out
      → Ok new ≡ pack_answer bs part (length (file_of bs part))
  packed n h e = go (pack_answer bs part (length out)) refl h e
    where
      go : (r : Result Bytes Refusal) → pack_answer bs part (length out) ≡ r → Ok n ≡ result_map_both length (λ e. e) r → new ≡ lent_after r out
          → Ok new ≡ pack_answer bs part (length (file_of bs part))
      go (Ok file) at length_is after =
          let is : file_of bs part ≡ file = (made bs part (length out) file at).0 in
          ap ok (after ∙ whole file out (just ∙ ap length is)) ∙ sym at ∙ ap (pack_answer bs part) just
      go (Err e) at length_is after = absurd (grind (arith, length_is, common_steps))

  pub unpacked : (e : Refusal) → Err e ≡ result_map_both length (λ e. e) (pack_answer bs part (length out)) → Err e ≡ pack_answer bs part (length (file_of bs part))
  unpacked e h = go (pack_answer bs part (length out)) refl h
    where
      go : (r : Result Bytes Refusal) → pack_answer bs part (length out) ≡ r → Err e ≡ result_map_both length (λ e. e) r → Err e ≡ pack_answer bs part (length (file_of bs part))
      go (Ok file) at length_is = absurd (grind (arith, length_is, common_steps))
      go (Err f) at length_is = same_refusal e f length_is ∙ sym at ∙ ap (pack_answer bs part) just
