-- The history of calls and the sheet itself agree, and a sheet that is the sealed one makes no clash.
use Rattle.std.proofs.Common.{◌≡◌, ℕ, ◌+◌, ◌-◌, ◌≤◌, Bool, true, false, not, List, [], ◌∷◌, length, get_or, sym, refl, ap, ◌∙◌, subst, arith}
use Rattle.std.proofs.lemmas.List.{ext_get_or, set-get_or}
use Rattle.std.proofs.lemmas.Bool.{not-false}
use Rattle.digests.specs.Strings.{Bytes, same}
use Rattle.families.specs.Numbers.{numbers, keep_where}
use Rattle.families.specs.Family.{Rising}
use Rattle.families.proofs.Apart.{has}
use Rattle.sheets.specs.Calls.{block_at, with_block}
use Rattle.seals.specs.Scheme.{Scheme, Inspection}
use Rattle.seals.specs.Calls.{held_back, check_before, vouch_before, passes, agrees}
use Rattle.seals.specs.Law.{Call, after_all, up_to_first, rows_of, rows_of_sheet, compares, NoClash, is_changed, changed, Clear, HistoryIsTheSheet}
use Rattle.seals.specs.Law.Call.{check, vouch}
use Rattle.seals.specs.Law.Image.{whole}
use Rattle.seals.proofs.Answers.{same_true}
use Rattle.seals.proofs.Numbers.{has_number, number_had, keep_same, kept, kept_set}
use Rattle.seals.proofs.History.{count_now, standing_now}

-- the sealed rows make no clash
rows_clear : (s : Scheme) (sealed : List Bytes) (is : List ℕ) → NoClash s sealed (rows_of_sheet sealed is)
rows_clear s sealed [] = tt
rows_clear s sealed (i ∷ is) = ((λ e. refl), rows_clear s sealed is)

-- nor does a check of the sealed sheet
sealed_check_clear : (s : Scheme) (part : Bytes) (sealed : List Bytes) (room : ℕ) → NoClash s sealed (compares s part sealed (check room))
unfolding compares
sealed_check_clear s part sealed room = go (held_back (check_before s part sealed room)) (agrees s part sealed)
  where
    go : (early agree : Bool)
        → NoClash s sealed (elim early [ true ↦ [] | false ↦ (whole, sealed) ∷ elim agree [ true ↦ [] | false ↦ rows_of_sheet sealed (numbers 1 s.family.rows) ] ])
    go true agree = tt
    go false true = ((λ e. refl), tt)
    go false false = ((λ e. refl), rows_clear s sealed (numbers 1 s.family.rows))

-- nor a vouch of sealed bytes for it
sealed_vouch_clear : (s : Scheme) (part : Bytes) (sealed : List Bytes) (j : ℕ) → NoClash s sealed (compares s part sealed (vouch j (block_at sealed j)))
unfolding compares
sealed_vouch_clear s part sealed j =
    go (held_back (vouch_before s part sealed j (block_at sealed j))) (with_block sealed j (block_at sealed j)) (set-get_or sealed (j - 1) [])
  where
    go : (early : Bool) (bs : List Bytes) → bs ≡ sealed
        → NoClash s sealed (elim early [ true ↦ [] | false ↦ rows_of_sheet bs (up_to_first (passes s part bs) (rows_of s.family j)) ])
    go true bs e = tt
    go false bs e =
        let is = up_to_first (passes s part bs) (rows_of s.family j) in
        subst (λ (z : List Bytes). NoClash s sealed (rows_of_sheet z is)) (sym e) (rows_clear s sealed is)

module _ (s : Scheme) (own : Inspection) (part : Bytes) (sealed : List Bytes) where
  -- whether a block is changed is seen on the sheet
  seen : (cs : List Call) (j : ℕ) → 1 ≤ j
      → is_changed s own part sealed cs j ≡ not (same (block_at (after_all sealed cs) j) (block_at sealed j))
  unfolding is_changed
  seen cs j p = ap (λ (b : Bytes). not (same b (block_at sealed j))) (standing_now s own part sealed cs j p)

  seen_all : (cs : List Call)
      → changed s own part sealed cs ≡ keep_where (λ j. not (same (block_at (after_all sealed cs) j) (block_at sealed j))) (numbers 1 s.family.blocks)
  unfolding changed
  seen_all cs = keep_same _ _ (numbers 1 s.family.blocks) (λ j a. seen cs j (number_had 1 s.family.blocks j a).0)

  set_of_changed : (cs : List Call) → Rising s.family.blocks 0 (changed s own part sealed cs)
  unfolding changed
  set_of_changed cs = kept_set (is_changed s own part sealed cs) s.family.blocks 0 s.family.blocks (omega arith)

  -- a block of the sheet that is not among the changed ones has its sealed bytes
  unchanged_block : (cs : List Call) (j : ℕ) → 1 ≤ j → j ≤ s.family.blocks → changed s own part sealed cs ≡ []
      → block_at (after_all sealed cs) j ≡ block_at sealed j
  unfolding changed
  unchanged_block cs j p q none = go (is_changed s own part sealed cs j) refl
    where
      go : (t : Bool) → is_changed s own part sealed cs j ≡ t → block_at (after_all sealed cs) j ≡ block_at sealed j
      go true e =
          let among = kept (is_changed s own part sealed cs) j (numbers 1 s.family.blocks) (has_number 1 s.family.blocks j p (omega arith)) e in
          absurd (true_of_none (subst (λ (z : List ℕ). has j z ≡ true) none among))
        where
          true_of_none : has j [] ≡ true → ⊥
          true_of_none h = cc
      go false e = same_true _ _ (not-false _ (sym (seen cs j p) ∙ e))

  same_sheet : (cs : List Call) → length sealed ≤ s.family.blocks → changed s own part sealed cs ≡ [] → after_all sealed cs ≡ sealed
  same_sheet cs fits none =
      ext_get_or {A = Bytes} [] (after_all sealed cs) sealed (count_now sealed cs)
      (λ i l. let count = count_now sealed cs in
      subst (λ (z : ℕ). get_or (after_all sealed cs) z [] ≡ get_or sealed z []) (omega arith) (unchanged_block cs (1 + i) (omega arith) (omega arith) none))

  unchanged_check_clear : (cs : List Call) (room : ℕ) → length sealed ≤ s.family.blocks → changed s own part sealed cs ≡ [] → Clear s own part sealed cs (check room)
  unchanged_check_clear cs room fits none =
      subst (λ (bs : List Bytes). NoClash s sealed (compares s part bs (check room))) (sym (same_sheet cs fits none)) (sealed_check_clear s part sealed room)

  unchanged_vouch_clear : (cs : List Call) (j : ℕ) → length sealed ≤ s.family.blocks → changed s own part sealed cs ≡ []
      → Clear s own part sealed cs (vouch j (block_at sealed j))
  unchanged_vouch_clear cs j fits none =
      subst (λ (bs : List Bytes). NoClash s sealed (compares s part bs (vouch j (block_at sealed j)))) (sym (same_sheet cs fits none)) (sealed_vouch_clear s part sealed j)

  pub history_is_the_sheet : HistoryIsTheSheet s own part sealed
  history_is_the_sheet =
      record {
        stands = λ cs j p. sym (standing_now s own part sealed cs j p);
        differ = seen_all;
        rising = set_of_changed;
        sealed_again = same_sheet;
        check_of_sealed = unchanged_check_clear;
        vouch_of_sealed = unchanged_vouch_clear;
      }
