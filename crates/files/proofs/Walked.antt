-- Frames walked one after another.
use Rattle.std.specs.Prelude.{◌≡◌, ℕ, suc, ◌+◌, ◌-◌, ◌<◌, ◌≤◌, Bool, true, false, ◌&&◌, List, [], ◌∷◌, ◌++◌, length, ◌==◌, ◌≢◌, nat_le, refl}
use Rattle.std.proofs.Common.{sym, ap, ◌∙◌, arith, append_assoc, length-drop}
use Rattle.std.proofs.lemmas.List.{append-nil, nil_from_length, length_push}
use Rattle.std.proofs.lemmas.Bool.{and_parts, and_from, and_right, le-leb, leb-true, ne_eqb}
use Rattle.digests.specs.Strings.{Bytes, same}
use Rattle.sheets.specs.Table.{max_bytes}
use Rattle.sheets.specs.Calls.{total_bytes}
use Rattle.seals.specs.Images.{framed_blocks}
use Rattle.seals.specs.Part.{word}
use Rattle.seals.specs.Calls.{unframed}
use Rattle.seals.proofs.FirstFrame.{Small, begun, framed_test, small_behind}
use Rattle.files.specs.File.{frames, blocks_in, is_frames}
use Rattle.files.specs.Frames.{has_frame, first_block, behind}

-- so many blocks from number m on, as they are read
unfoldable pub blocks_from : ℕ → ℕ → Bytes → List Bytes
blocks_from m count e = unframed (λ _. true) m count e

-- a string is exactly the frames of these blocks, which have together at most 38,912 bytes with `total` that were counted before
unfoldable pub holds_from : ℕ → ℕ → ℕ → Bytes → Bool
holds_from m count total e =
    same (framed_blocks (λ _. true) m (blocks_from m count e)) e && nat_le (total + total_bytes (blocks_from m count e)) max_bytes

pub walk_start : (n : ℕ) (e : Bytes) → is_frames n e ≡ holds_from 1 n 0 e
unfolding is_frames frames blocks_in holds_from blocks_from
walk_start n e = ap (λ k. same (framed_blocks (λ _. true) 1 (unframed (λ _. true) 1 n e)) e && nat_le k max_bytes) (omega arith)

pub blocks_start : (n : ℕ) (e : Bytes) → blocks_in n e ≡ blocks_from 1 n e
unfolding blocks_in blocks_from
blocks_start n e = refl

blocks_step : (m count : ℕ) (e : Bytes) → blocks_from m (suc count) e ≡ first_block e ∷ blocks_from (suc m) count (behind e)
unfolding blocks_from unframed first_block behind
blocks_step m count e = refl

-- a block of so few bytes with others is short
short_too : (total size others : ℕ) → (nat_le size max_bytes && nat_le (total + (size + others)) max_bytes) ≡ nat_le (total + (size + others)) max_bytes
short_too total size others = go (nat_le (total + (size + others)) max_bytes) refl
  where
    go : (b : Bool) → nat_le (total + (size + others)) max_bytes ≡ b → (nat_le size max_bytes && b) ≡ b
    go true h = and_from (nat_le size max_bytes) true (le-leb size max_bytes (omega (arith, leb-true (total + (size + others)) max_bytes h))) refl
    go false h = and_right (nat_le size max_bytes) false refl

-- one frame more
step : (m count total : ℕ) (e : Bytes) → m < 65536 → Small e
    → holds_from m (suc count) total e ≡ (has_frame m e && holds_from (suc m) count (total + length (first_block e)) (behind e))
unfolding holds_from blocks_from unframed framed_blocks has_frame first_block behind
step m count total e low small =
    let rest = unframed (λ _. true) (suc m) count (behind e) in
    let t = nat_le (total + (length (first_block e) + total_bytes rest)) max_bytes in
    ap (λ k. same (framed_blocks (λ _. true) m (first_block e ∷ rest)) e && k) (sym (short_too total (length (first_block e)) (total_bytes rest)))
    ∙ framed_test m (framed_blocks (λ _. true) (suc m) rest) e t low small
    ∙ ap (λ k. has_frame m e && (same (framed_blocks (λ _. true) (suc m) rest) (behind e) && nat_le k max_bytes)) (omega arith)

walk_end : (m total : ℕ) (e : Bytes) → holds_from m 0 total e ≡ (length e == 0 && nat_le total max_bytes)
unfolding holds_from blocks_from unframed framed_blocks
walk_end m total [] = ap (λ k. nat_le k max_bytes) (omega arith)
walk_end m total (x ∷ e) =
    let some : suc (length e) ≢ 0 = omega arith in
    rw ne_eqb refl

-- what holds of a string whose first i frames of n were taken off
module _ (whole : Bool) (n i total : ℕ) (e : Bytes) (so_far : whole ≡ holds_from (i + 1) (n - i) total e) where
  module _ (more : i < n) (few : n < 65536) (small : Small e) where
    next : whole ≡ (has_frame (i + 1) e && holds_from (i + 1 + 1) (n - (i + 1)) (total + length (first_block e)) (behind e))
    next =
        let count : n - i ≡ suc (n - (i + 1)) = omega arith in
        let after : suc (i + 1) ≡ i + 1 + 1 = omega arith in
        so_far ∙ ap (λ k. holds_from (i + 1) k total e) count ∙ step (i + 1) (n - (i + 1)) total e (omega arith) small
        ∙ ap (λ k. has_frame (i + 1) e && holds_from k (n - (i + 1)) (total + length (first_block e)) (behind e)) after

    pub turn : has_frame (i + 1) e ≡ true → whole ≡ holds_from (i + 1 + 1) (n - (i + 1)) (total + length (first_block e)) (behind e)
    turn h = next ∙ ap (λ b. b && holds_from (i + 1 + 1) (n - (i + 1)) (total + length (first_block e)) (behind e)) h

    pub turn_fails : has_frame (i + 1) e ≡ false → whole ≡ false
    turn_fails h = next ∙ ap (λ b. b && holds_from (i + 1 + 1) (n - (i + 1)) (total + length (first_block e)) (behind e)) h

    -- where the whole is exact there is a frame
    pub frame_there : whole ≡ true → has_frame (i + 1) e ≡ true
    frame_there h = (and_parts (has_frame (i + 1) e) _ (sym next ∙ h)).0

  pub turn_end : n ≡ i → whole ≡ (length e == 0 && nat_le total max_bytes)
  turn_end all =
      let none : n - i ≡ 0 = omega arith in
      so_far ∙ ap (λ k. holds_from (i + 1) k total e) none ∙ walk_end (i + 1) total e

  -- and so many bytes are within a sheet
  pub within : whole ≡ true → total ≤ max_bytes
  unfolding holds_from
  within h =
      let enough = (and_parts (same (framed_blocks (λ _. true) (i + 1) (blocks_from (i + 1) (n - i) e)) e) _ (sym so_far ∙ h)).1 in
      let low = leb-true (total + total_bytes (blocks_from (i + 1) (n - i) e)) max_bytes enough in
      omega arith

-- a frame is longer than its block
pub front_size : (m : ℕ) (e : Bytes) → Small e → has_frame m e ≡ true → length (first_block e) + length (behind e) ≤ length e
unfolding has_frame first_block behind
front_size m e small h =
    let b = begun m e small h in
    let left = length-drop (4 + word e 2) e in
    omega (arith, b.size, b.there)

pub small_left : (e : Bytes) → Small e → Small (behind e)
unfolding behind
small_left e small = small_behind e small

total_more : (bs : List Bytes) (b : Bytes) → total_bytes (bs ++ b ∷ []) ≡ total_bytes bs + length b
total_more [] b = omega arith
total_more (x ∷ bs) b = omega (arith, total_more bs b)

-- a sheet with the first i blocks of n, of which `left` has the others framed; together they are all
pub record FilledSoFar (all : List Bytes) (n i : ℕ) (bs : List Bytes) (left : Bytes) : Type 0 where
  pub so_many : length bs ≡ i
  pub joins : bs ++ blocks_from (i + 1) (n - i) left ≡ all
  pub exact : true ≡ holds_from (i + 1) (n - i) (total_bytes bs) left
  pub small : Small left

pub fill_start : (n : ℕ) (bs : List Bytes) (e : Bytes) → length bs ≡ 0 → is_frames n e ≡ true → Small e → FilledSoFar (blocks_in n e) n 0 bs e
fill_start n bs e none good small =
    let count : n - 0 ≡ n = omega arith in
    let empty = nil_from_length bs none in
    record {
      so_many = none;
      joins = ap (λ k. k ++ blocks_from 1 (n - 0) e) empty ∙ ap (λ k. blocks_from 1 k e) count ∙ sym (blocks_start n e);
      exact =
          sym good ∙ walk_start n e ∙ ap (λ k. holds_from 1 k 0 e) (sym count)
          ∙ ap (λ k. holds_from 1 (n - 0) (total_bytes k) e) (sym empty);
      small = small;
    }

module _ (all : List Bytes) (n i : ℕ) (bs : List Bytes) (e : Bytes) (f : FilledSoFar all n i bs e) where
  module _ (more : i < n) (few : n ≤ 512) where
    pub fill_frame : has_frame (i + 1) e ≡ true
    fill_frame = frame_there true n i (total_bytes bs) e f.exact more (omega arith) f.small refl

    after : true ≡ holds_from (i + 1 + 1) (n - (i + 1)) (total_bytes bs + length (first_block e)) (behind e)
    after = turn true n i (total_bytes bs) e f.exact more (omega arith) f.small fill_frame

    pub fill_slot : length bs < 512
    fill_slot = omega (arith, f.so_many)

    pub fill_room : (b : Bytes) → b ≡ first_block e → total_bytes bs + length b ≤ max_bytes
    fill_room b same =
        let low = within true n (i + 1) (total_bytes bs + length (first_block e)) (behind e) after refl in
        omega (arith, ap length same)

    pub fill_more : (b left : Bytes) (now : List Bytes) → b ≡ first_block e → left ≡ behind e → now ≡ bs ++ b ∷ [] → FilledSoFar all n (i + 1) now left
    fill_more b left now block rest appended =
        let count : n - i ≡ suc (n - (i + 1)) = omega arith in
        let next : suc (i + 1) ≡ i + 1 + 1 = omega arith in
        let there : now ≡ bs ++ first_block e ∷ [] = appended ∙ ap (λ k. bs ++ k ∷ []) block in
        record {
          so_many = ap length there ∙ length_push bs (first_block e) ∙ ap (λ k. k + 1) f.so_many;
          joins =
              ap (λ k. k ++ blocks_from (i + 1 + 1) (n - (i + 1)) left) there ∙ append_assoc bs (first_block e ∷ []) (blocks_from (i + 1 + 1) (n - (i + 1)) left)
              ∙ ap (λ k. bs ++ (first_block e ∷ blocks_from (i + 1 + 1) (n - (i + 1)) k)) rest
              ∙ ap (λ k. bs ++ (first_block e ∷ blocks_from k (n - (i + 1)) (behind e))) (sym next)
              ∙ ap (λ k. bs ++ k) (sym (blocks_step (i + 1) (n - (i + 1)) e)) ∙ ap (λ k. bs ++ blocks_from (i + 1) k e) (sym count) ∙ f.joins;
          exact =
              after ∙ ap (λ k. holds_from (i + 1 + 1) (n - (i + 1)) k (behind e)) (sym (ap total_bytes there ∙ total_more bs (first_block e)))
              ∙ ap (holds_from (i + 1 + 1) (n - (i + 1)) (total_bytes now)) (sym rest);
          small = rw rest (small_left e f.small);
        }

  pub fill_end : n ≡ i → bs ≡ all
  unfolding blocks_from unframed
  fill_end done =
      let none : n - i ≡ 0 = omega arith in
      sym (append-nil bs) ∙ ap (λ k. bs ++ blocks_from (i + 1) k e) (sym none) ∙ f.joins
