-- The worked cases, by computing.
use Rattle.std.proofs.Common.{◌≡◌, ℕ, zero, suc, ◌<◌, ◌/◌, List, [], ◌∷◌, Ok, Err, sym, refl, ap, ◌∙◌, mod-lt, arith}
use Rattle.std.specs.List.{AllByRecursion}
use Rattle.answers.specs.declared.Refusal.{Refusal}
use Rattle.answers.specs.declared.Refusal.TheVariants.{NoSuchBlock}
use Rattle.digests.specs.Strings.{Bytes, same}
use Rattle.families.specs.Numbers.{numbers, keep_where, any_of}
use Rattle.families.specs.Choice.{first_fit}
use Rattle.families.specs.Lawful.{plane_lawful}
use Rattle.seals.specs.Images.{framed_blocks, row_image, whole_image, row_rest}
use Rattle.seals.specs.Part.{word, row_digest, whole_digest, digests_of_rows, seal_head, text_to_sign, seal_part}
use Rattle.seals.specs.Calls.{same_family, same_scheme, same_count, passes, agrees, suspect, suspects, check_before, check_answer, vouching, vouch_before, vouch_answer, excerpt_answer, unframed, all_short, rest_blocks, is_excerpt, confirm_before, confirm_answer}
use Rattle.seals.specs.Law.{Call, Answer, Event, up_to_first, rows_of, answer, after, after_all, events, rewritten_to, standing, is_changed, changed, changed_beside, is_unclear, unclear, compares, image_of}
use Rattle.seals.specs.Law.Call.{rewrite, check}
use Rattle.seals.specs.Law.Done.{rewritten, named}
use Rattle.seals.specs.Cases.{as_number, lowest_digits, small_digest, plane, yes, one_byte_blocks, plane_sheet, plane_part, spoil, asked, failing, images_compared, bytes_compared, cases, beside_eight, WorkedCases, NotEmpty}
use Rattle.seals.proofs.Established.{Written}
use Rattle.seals.proofs.Answers.{same_true, same_refl}
use Rattle.seals.proofs.Promises.{sealed_promises}

pub worked_cases : WorkedCases
unfolding framed_blocks row_image whole_image numbers keep_where any_of row_digest whole_digest word same_family same_scheme same_count check_before passes agrees suspect suspects check_answer answer after after_all digests_of_rows seal_head text_to_sign seal_part first_fit rows_of as_number lowest_digits small_digest plane yes one_byte_blocks plane_sheet plane_part spoil asked failing events rewritten_to standing is_changed changed changed_beside is_unclear unclear images_compared bytes_compared compares image_of vouch_before up_to_first row_rest unframed all_short rest_blocks is_excerpt confirm_before beside_eight cases
worked_cases =
    (refl, (refl, (refl, (refl, (refl, (refl, (refl, (refl, (refl, (refl, (refl, (refl, (refl, (refl, (refl, (refl, (refl, (refl, (refl, (refl, (refl, (refl, (refl, (refl, (refl, (refl, (refl, (refl, (refl, (refl, (refl, (refl, (refl, (refl, (refl, (refl, tt))))))))))))))))))))))))))))))))))))

digits_are_bytes : (x count : ℕ) → AllByRecursion (λ d. d < 256) (lowest_digits x count)
unfolding lowest_digits
digits_are_bytes x zero = tt
digits_are_bytes x (suc count) = (mod-lt x (omega arith), digits_are_bytes (x / 256) count)

-- two strings do not clash if their digests are the same exactly if they are
no_clash_by : (a b : Bytes) → same (small_digest a) (small_digest b) ≡ same a b → small_digest a ≡ small_digest b → a ≡ b
no_clash_by a b e d = same_true a b (sym e ∙ ap (λ (z : Bytes). same z (small_digest b)) d ∙ same_refl (small_digest b))

plane_written : Written plane yes 70000 plane_sheet []
unfolding plane yes plane_sheet one_byte_blocks numbers small_digest lowest_digits
plane_written =
    record {
      counted = refl;
      fits = omega arith;
      lawful = plane_lawful 12 (omega arith) (omega arith);
      digest_size = λ b. refl;
      digest_named = omega arith;
      sealer_named = omega arith;
      number_fits = omega arith;
      signature_fits = omega arith;
      genuine = refl;
    }

not_five : ◌≡◌ {A = ℕ} 28 28 × ◌≡◌ {A = List ℕ} (5 ∷ []) (4 ∷ []) → ⊥
not_five h = absurd (let z : ◌≡◌ {A = List ℕ} (5 ∷ []) (4 ∷ []) = h.1 in cc)

-- a call that is refused, and a check, are no rewrite that succeeds
refused_quiet : (c : Call) (e : Refusal) (j n : ℕ) (v : Bytes) → ◌≡◌ {A = Event} (c, Err e) (rewrite j v, Ok (rewritten n)) → ⊥
refused_quiet c e j n v h = absurd (let z : ◌≡◌ {A = Answer} (Err e) (Ok (rewritten n)) = ap (λ (x : Event). x.1) h in cc)

check_quiet : (room : ℕ) (a : Answer) (j n : ℕ) (v : Bytes) → ◌≡◌ {A = Event} (check room, a) (rewrite j v, Ok (rewritten n)) → ⊥
check_quiet room a j n v h = absurd (let z : ◌≡◌ {A = Call} (check room) (rewrite j v) = ap (λ (x : Event). x.0) h in cc)

pub not_empty : NotEmpty
unfolding framed_blocks row_image whole_image numbers keep_where any_of row_digest whole_digest word same_family same_scheme same_count check_before passes agrees suspect suspects check_answer answer after after_all events rewritten_to standing is_changed changed compares image_of digests_of_rows seal_head text_to_sign seal_part as_number lowest_digits small_digest plane yes one_byte_blocks plane_sheet plane_part spoil asked beside_eight row_rest vouching vouch_before vouch_answer up_to_first rows_of excerpt_answer unframed all_short rest_blocks is_excerpt confirm_before confirm_answer
not_empty =
    record {
      promised = sealed_promises plane yes 70000 plane_sheet [] plane_written;
      has_room = omega arith;
      clear = (no_clash_by _ _ refl, (no_clash_by _ _ refl, (no_clash_by _ _ refl, (no_clash_by _ _ refl, (no_clash_by _ _ refl, (no_clash_by _ _ refl, (no_clash_by _ _ refl, (no_clash_by _ _ refl, (no_clash_by _ _ refl, (no_clash_by _ _ refl, tt))))))))));
      one_changed = refl;
      one_named = refl;
      vouch_clear = (no_clash_by _ _ refl, tt);
      one_vouched = refl;
      one_excerpted = refl;
      confirm_clear = (no_clash_by _ _ refl, tt);
      one_confirmed = refl;
      three_clear = (no_clash_by _ _ refl, (no_clash_by _ _ refl, (no_clash_by _ _ refl, (no_clash_by _ _ refl, (no_clash_by _ _ refl, (no_clash_by _ _ refl, (no_clash_by _ _ refl, (no_clash_by _ _ refl, (no_clash_by _ _ refl, (no_clash_by _ _ refl, tt))))))))));
      three_refused = (refl, refl);
      not_with_four = not_five;
      around_clear = (no_clash_by _ _ refl, (no_clash_by _ _ refl, tt));
      around_vouched = refl;
      refused_changed = refl;
      back_changed = refl;
      back_named = refl;
      quiet = (refused_quiet (rewrite 13 (99 ∷ [])) NoSuchBlock, (check_quiet 2 (Ok (named [])), tt));
      not_quiet = λ q. q.0 4 12 (99 ∷ []) refl;
      digest_bytes = λ b. (refl, digits_are_bytes (as_number b) 32);
    }
