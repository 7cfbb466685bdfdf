-- The law over runs: a seal keeps its promises whatever calls follow.
use Rattle.std.proofs.Common.{◌≡◌, ℕ, ◌≤◌, false, not, ◌&&◌, eqb, ltb, List, [], ◌∷◌, ◌++◌, length, get_or, Ok, sym, refl, subst, inl, inr, arith}
use Rattle.std.proofs.lemmas.Bool.{eq-eqb, not_from_true}
use Rattle.answers.specs.declared.Refusal.TheVariants.{TooLong, NoSuchBlock, NoRoom, Malformed, NotGenuine, RowLacksBlock, RowDiffers, SheetFull, OtherScheme, OtherBlockCount, TooManySuspects, NoRowVouches}
use Rattle.digests.specs.Strings.{Bytes}
use Rattle.families.proofs.Apart.{tells_apart}
use Rattle.sheets.specs.Calls.{total_bytes, with_block, no_block}
use Rattle.seals.specs.Images.{row_rest}
use Rattle.seals.specs.Scheme.{Scheme, Inspection}
use Rattle.seals.specs.Part.{part_sealer_kind, is_seal_part, seal_number, signed_text, signature_of}
use Rattle.seals.specs.Calls.{same_family, same_scheme, same_count, accept_answer, passes, suspects, check_before, check_answer, vouching, vouch_before, vouch_answer, excerpt_answer, rest_blocks, confirm_before, confirm_answer}
use Rattle.seals.specs.Law.{Call, answer, after_all, RefusesAs, unclear, reply, Promised}
use Rattle.seals.specs.Law.Call.{rewrite, accept, check, vouch, excerpt, confirm}
use Rattle.seals.specs.Law.Done.{rewritten, accepted, named, vouched, excerpted, confirmed}
use Rattle.seals.proofs.Established.{Established}
use Rattle.seals.proofs.Answers.{never_refused}
use Rattle.seals.proofs.Rows.{family_alike, count_alike}
use Rattle.seals.proofs.CheckLaw.{now_count, row_fails, check_fails, check_suspects, check_names, check_refuses}
use Rattle.seals.proofs.Apart.{failing_fix}
use Rattle.seals.proofs.VouchLaw.{vouched_sealed, vouch_exact}
use Rattle.seals.proofs.ConfirmLaw.{confirmed_sealed, excerpt_after}

accept_passes : (s : Scheme) (own : Inspection) (part : Bytes) (sealed : List Bytes) → Established s own part sealed
    → (cs : List Call) → reply s own part sealed cs accept ≡ Ok (accepted part)
unfolding answer accept_answer
accept_passes s own part sealed h cs = rw (h.formed, eq-eqb (part_sealer_kind part) own.kind h.same_kind, h.genuine)

-- no call is refused for another family, digest or block count, so as 26 or 27
never : (s : Scheme) (own : Inspection) (part : Bytes) (sealed : List Bytes) → Established s own part sealed
    → (cs : List Call) (n : ℕ) (vs : List ℕ) → 26 ≤ n → n ≤ 27 → (c : Call) → RefusesAs n vs (reply s own part sealed cs c) → ⊥
unfolding answer accept_answer check_answer check_before vouch_answer vouch_before excerpt_answer confirm_answer confirm_before
never s own part sealed h cs n vs low high c = go c
  where
    bs : List Bytes
    bs = after_all sealed cs

    made : not (same_scheme s part) ≡ false
    made = not_from_true _ h.scheme_is

    family : not (same_family s.family part) ≡ false
    family = not_from_true _ (family_alike s own part sealed h)

    count : not (same_count bs part) ≡ false
    count = not_from_true _ (count_alike s own part sealed h bs (now_count s own part sealed h cs))

    go : (c : Call) → RefusesAs n vs (answer s own part bs c) → ⊥
    go (rewrite j b) =
        never_refused rewritten n vs
        ((no_block (length bs) j, NoSuchBlock) ∷ ((ltb 38912 (length b), TooLong) ∷ ((ltb 38912 (total_bytes (with_block bs j b)), SheetFull) ∷ [])))
        (total_bytes (with_block bs j b)) (inr (λ e. omega arith), (inr (λ e. omega arith), (inr (λ e. omega arith), tt)))
    go accept =
        never_refused accepted n vs
        ((not (is_seal_part part), Malformed)
        ∷ ((not (eqb (part_sealer_kind part) own.kind && own.says (seal_number part) (signed_text part) (signature_of part)), NotGenuine) ∷ []))
        part (inr (λ e. omega arith), (inr (λ e. omega arith), tt))
    go (check room) =
        let found = suspects s part bs in
        never_refused named n vs (check_before s part bs room ++ ((ltb s.family.strength (length found), TooManySuspects (length found)) ∷ []))
        found (inl made, (inl count, (inr (λ e. omega arith), (inr (λ e. omega arith), tt))))
    go (vouch j v) =
        let first = get_or (vouching s part bs j v) 0 0 in
        never_refused (λ (r : ℕ × ℕ). vouched r.0 r.1) n vs (vouch_before s part bs j v ++ ((eqb (length (vouching s part bs j v)) 0, NoRowVouches) ∷ []))
        (first, length (row_rest s.family.holds first j bs))
        (inl made, (inl count, (inr (λ e. omega arith), (inr (λ e. omega arith), (inr (λ e. omega arith), tt)))))
    go (excerpt j i room) =
        let rest = row_rest s.family.holds i j bs in
        never_refused excerpted n vs
        ((not (same_family s.family part), OtherScheme) ∷ ((not (same_count bs part), OtherBlockCount) ∷ ((no_block (length bs) j, NoSuchBlock)
        ∷ ((not (s.family.holds i j), RowLacksBlock) ∷ ((ltb room (length rest), NoRoom) ∷ [])))))
        rest (inl family, (inl count, (inr (λ e. omega arith), (inr (λ e. omega arith), (inr (λ e. omega arith), tt)))))
    go (confirm j i v e) =
        never_refused (λ (_ : Unit {0}). confirmed) n vs
        (confirm_before s part j i v e ++ ((not (passes s part (with_block (rest_blocks s.family j i e) j v) i), RowDiffers) ∷ []))
        tt (inl made, (inr (λ e. omega arith), (inr (λ e. omega arith), (inr (λ e. omega arith), (inr (λ e. omega arith), (inr (λ e. omega arith), tt))))))

pub promised : (s : Scheme) (own : Inspection) (part : Bytes) (sealed : List Bytes) → Established s own part sealed → Promised s own part sealed
promised s own part sealed h =
    record {
      accepts = accept_passes s own part sealed h;
      never_other = λ cs c vs. (
        never s own part sealed h cs 26 vs (omega arith) (omega arith) c,
        never s own part sealed h cs 27 vs (omega arith) (omega arith) c,
      );
      names = check_names s own part sealed h;
      refuses = λ cs room r c m.
          subst (RefusesAs 28 (length (unclear s own part sealed cs) ∷ [])) (sym (check_refuses s own part sealed h cs room r c m)) (refl, refl);
      fails = row_fails s own part sealed h;
      finds = failing_fix s own part sealed h;
      fails_in_check = check_fails s own part sealed h;
      suspects_unclear = check_suspects s own part sealed h;
      tells_apart = tells_apart s.family.blocks s.family.rows s.family.strength s.family.holds h.lawful.covers;
      vouches = vouch_exact s own part sealed h;
      vouched_is_sealed = vouched_sealed s own part sealed h;
      confirmed_is_sealed = confirmed_sealed s own part sealed h;
      excerpt_follows = excerpt_after s own part sealed h;
    }
