-- The sheet after a list of calls is what the history of successful rewrites says.
use Rattle.std.proofs.Common.{◌≡◌, ℕ, zero, suc, ◌-◌, ◌≤◌, false, cond, eqb, ◌⊎◌, List, [], ◌∷◌, ◌++◌, length, Ok, Err, Result, sym, refl, ap, ◌∙◌, inl, inr, arith, length-set}
use Rattle.std.proofs.lemmas.List.{get_or-set_same, get_or-set_other}
use Rattle.std.proofs.lemmas.Bool.{cases_eq, eq-eqb, ne_eqb}
use Rattle.std.proofs.lemmas.Bool.Decides.{nat_tests}
use Rattle.answers.specs.declared.Refusal.{Refusal}
use Rattle.digests.specs.Strings.{Bytes}
use Rattle.sheets.specs.Calls.{total_bytes, block_at, with_block, no_block, rewrite_answer}
use Rattle.seals.specs.Scheme.{Scheme, Inspection}
use Rattle.seals.specs.Law.{Call, done_as, answer, after, after_all, Event, events, rewritten_to, standing, NoRewrite}
use Rattle.seals.specs.Law.Call.{rewrite}
use Rattle.seals.specs.Law.Done.{rewritten}
use Rattle.seals.proofs.Framing.{Short}

-- a number that is not refused is one of a block
pub block_range : (n j : ℕ) → no_block n j ≡ false → (1 ≤ j) × (j ≤ n)
block_range n j h = grind (arith, nat_tests)

pub block_there : (n j : ℕ) → 1 ≤ j → j ≤ n → no_block n j ≡ false
block_there n j a b = grind (arith, nat_tests)

-- a sheet with another block in place of one
pub length_with : (bs : List Bytes) (j : ℕ) (b : Bytes) → length (with_block bs j b) ≡ length bs
length_with bs j b = length-set bs (j - 1) b

pub block_with_same : (bs : List Bytes) (j : ℕ) (b : Bytes) → 1 ≤ j → j ≤ length bs → block_at (with_block bs j b) j ≡ b
block_with_same bs j b p q = get_or-set_same bs (j - 1) b [] (omega arith)

pub block_with_other : (bs : List Bytes) (j m : ℕ) (b : Bytes) → 1 ≤ j → 1 ≤ m → (m ≡ j → ⊥) → block_at (with_block bs j b) m ≡ block_at bs m
block_with_other bs j m b p q d = get_or-set_other bs (j - 1) (m - 1) b [] (λ e. d (omega arith))

-- a rewrite that succeeds names a block and leaves a sheet that fits
rewrite_done : (bs : List Bytes) (j : ℕ) (b : Bytes) (n : ℕ) → rewrite_answer bs j b ≡ Ok n
    → (1 ≤ j) × (j ≤ length bs) × (total_bytes (with_block bs j b) ≤ 38912)
rewrite_done bs j b n h = grind (arith, nat_tests)

after_count : (bs : List Bytes) (c : Call) → length (after bs c) ≡ length bs
unfolding after
after_count bs (rewrite m v) = go (rewrite_answer bs m v)
  where
    go : (r : Result ℕ Refusal) → length {A = Bytes} (elim r [ Ok n ↦ with_block bs m v | Err e ↦ bs ]) ≡ length bs
    go (Err e) = refl
    go (Ok n) = length_with bs m v
after_count bs c = refl

-- the sheet keeps its count of blocks
pub count_now : (bs : List Bytes) (cs : List Call) → length (after_all bs cs) ≡ length bs
unfolding after_all
count_now bs [] = refl
count_now bs (c ∷ cs) = count_now (after bs c) cs ∙ after_count bs c

after_fits : (bs : List Bytes) (c : Call) → total_bytes bs ≤ 38912 → total_bytes (after bs c) ≤ 38912
unfolding after
after_fits bs (rewrite m v) h = go (rewrite_answer bs m v) refl
  where
    go : (r : Result ℕ Refusal) → rewrite_answer bs m v ≡ r → total_bytes (elim r [ Ok n ↦ with_block bs m v | Err e ↦ bs ]) ≤ 38912
    go (Err e) k = h
    go (Ok n) k = (rewrite_done bs m v n k).2
after_fits bs c h = h

-- and goes on fitting
pub fits_now : (bs : List Bytes) (cs : List Call) → total_bytes bs ≤ 38912 → total_bytes (after_all bs cs) ≤ 38912
unfolding after_all
fits_now bs [] h = h
fits_now bs (c ∷ cs) h = fits_now (after bs c) cs (after_fits bs c h)

pub after_joined : (bs : List Bytes) (cs ds : List Call) → after_all bs (cs ++ ds) ≡ after_all (after_all bs cs) ds
unfolding after_all
after_joined bs [] ds = refl
after_joined bs (c ∷ cs) ds = after_joined (after bs c) cs ds

module _ (s : Scheme) (own : Inspection) (part : Bytes) where
  -- what one call makes of block j
  after_block : (bs : List Bytes) (c : Call) (j : ℕ) → 1 ≤ j → rewritten_to c (answer s own part bs c) j (block_at bs j) ≡ block_at (after bs c) j
  unfolding answer after rewritten_to
  after_block bs (rewrite m v) j p = go (rewrite_answer bs m v) refl
    where
      go : (r : Result ℕ Refusal) → rewrite_answer bs m v ≡ r
          → rewritten_to (rewrite m v) (done_as rewritten r) j (block_at bs j) ≡ block_at (elim r [ Ok n ↦ with_block bs m v | Err e ↦ bs ]) j
      go (Err e) h = refl
      go (Ok n) h = let d = rewrite_done bs m v n h in which d (cases_eq m j)
        where
          which : (1 ≤ m) × (m ≤ length bs) × (total_bytes (with_block bs m v) ≤ 38912) → (m ≡ j) ⊎ (m ≡ j → ⊥)
              → cond (eqb m j) v (block_at bs j) ≡ block_at (with_block bs m v) j
          which d (inl e) = rw (eq-eqb m j e) (sym (ap (block_at (with_block bs m v)) (sym e) ∙ block_with_same bs m v d.0 d.1))
          which d (inr e) = rw (ne_eqb m j e) (sym (block_with_other bs m j v d.0 p (λ q. e (sym q))))
  after_block bs c j p = refl

  -- the present bytes of a block are those of its last successful rewrite
  pub standing_now : (bs : List Bytes) (cs : List Call) (j : ℕ) → 1 ≤ j
      → standing (events s own part bs cs) j (block_at bs j) ≡ block_at (after_all bs cs) j
  unfolding standing events after_all
  standing_now bs [] j p = refl
  standing_now bs (c ∷ cs) j p =
      ap (standing (events s own part (after bs c) cs) j) (after_block bs c j p) ∙ standing_now (after bs c) cs j p

  -- a call that is no successful rewrite leaves the sheet
  after_kept : (bs : List Bytes) (c : Call) → ((j n : ℕ) (v : Bytes) → ◌≡◌ {A = Event} (c, answer s own part bs c) (rewrite j v, Ok (rewritten n)) → ⊥)
      → after bs c ≡ bs
  unfolding after answer
  after_kept bs (rewrite m v) h = go (rewrite_answer bs m v) h
    where
      go : (r : Result ℕ Refusal) → ((j n : ℕ) (w : Bytes) → ◌≡◌ {A = Event} (rewrite m v, done_as rewritten r) (rewrite j w, Ok (rewritten n)) → ⊥)
          → ◌≡◌ {A = List Bytes} (elim r [ Ok n ↦ with_block bs m v | Err e ↦ bs ]) bs
      go (Err e) k = refl
      go (Ok n) k = absurd (k m n v refl)
  after_kept bs c h = refl

  -- and so do any such calls
  pub sheet_kept : (bs : List Bytes) (cs : List Call) → NoRewrite (events s own part bs cs) → after_all bs cs ≡ bs
  unfolding after_all events
  sheet_kept bs [] h = refl
  sheet_kept bs (c ∷ cs) h =
      sheet_kept (after bs c) cs h.1 ∙ after_kept bs c h.0

-- a sheet that fits has short blocks
pub fits_short : (bs : List Bytes) → total_bytes bs ≤ 38912 → Short bs
fits_short [] h k = omega arith
fits_short (b ∷ bs) h zero = omega arith
fits_short (b ∷ bs) h (suc k) = fits_short bs (omega arith) k
