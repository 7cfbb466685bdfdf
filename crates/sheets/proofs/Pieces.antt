-- Blocks in a run of bytes: how many, how long, one more, one other.
use Rattle.std.proofs.Common.{◌≡◌, ℕ, zero, suc, ◌+◌, ◌-◌, ◌<◌, ◌≤◌, true, leb, List, [], ◌∷◌, ◌++◌, map, length, get_or, take, drop, set, sym, refl, ap, ◌∙◌, append_assoc, arith, length-append, length-drop, length-take, take-add}
use native.Mathlib.Nat.{sub_self}
use Rattle.std.proofs.lemmas.Bool.{and_parts}
use Rattle.std.proofs.lemmas.Bool.Decides.{nat_tests}
use Rattle.std.proofs.lemmas.List.{drop-drop, nil_from_length, take_all, take-append-le, drop-append-le, take_at, drop_at}
use Rattle.sheets.specs.Table.{Bytes, pieces, rises}
use Rattle.sheets.specs.Calls.{total_bytes}

-- the table with the ends from an index on moved: by so much back, then by so much on
abbrev pub moved : List ℕ → ℕ → ℕ → ℕ → List ℕ
moved ends i back on = take i ends ++ map (λ end. end - back + on) (drop i ends)

-- `rises` as a fact
abbrev pub Rises : ℕ → List ℕ → ℕ → Type 0
Rises start [] stop = start ≡ stop
Rises start (end ∷ ends) stop = (start ≤ end) × Rises end ends stop

pub risen : (start : ℕ) (ends : List ℕ) (stop : ℕ) → rises start ends stop ≡ true → Rises start ends stop
risen start [] stop e = grind (arith, nat_tests)
risen start (end ∷ ends) stop e =
    let h = and_parts (leb start end) (rises end ends stop) e in
    (grind (arith, nat_tests), risen end ends stop h.1)

pub rising : (start : ℕ) (ends : List ℕ) (stop : ℕ) → Rises start ends stop → rises start ends stop ≡ true
rising start [] stop e = grind (arith, nat_tests)
rising start (end ∷ ends) stop h =
    let low : leb start end ≡ true = grind (arith, nat_tests) in
    simp (low, rising end ends stop h.1)

-- the table ends no earlier than it starts
pub reach : (start : ℕ) (ends : List ℕ) (stop : ℕ) → Rises start ends stop → start ≤ stop
reach start [] stop h = omega arith
reach start (end ∷ ends) stop h = omega (arith, h.0, reach end ends stop h.1)

pub length_pieces : (start : ℕ) (ends bs : List ℕ) → length (pieces start ends bs) ≡ length ends
length_pieces start [] bs = refl
length_pieces start (end ∷ ends) bs = ap suc (length_pieces end ends (drop (end - start) bs))

pub total_pieces : (start : ℕ) (ends bs : List ℕ) → Rises start ends (start + length bs) → total_bytes (pieces start ends bs) ≡ length bs
total_pieces start [] bs h = omega arith
total_pieces start (end ∷ ends) bs h =
    let far = reach end ends (start + length bs) h.1 in
    let low : start ≤ end = h.0 in
    let left : end + length (drop (end - start) bs) ≡ start + length bs = simp length-drop (omega arith) in
    let rest = total_pieces end ends (drop (end - start) bs) (rw left h.1) in
    omega (arith, rest, length-take (end - start) bs, length-drop (end - start) bs)

-- the block at an index lies between its start and its end
pub bounds : (start : ℕ) (ends : List ℕ) (stop i : ℕ) → Rises start ends stop → i < length ends
    → (start ≤ get_or (start ∷ ends) i 0) × (get_or (start ∷ ends) i 0 ≤ get_or ends i 0) × (get_or ends i 0 ≤ stop)
bounds start [] stop i h l = absurd (omega arith)
bounds start (end ∷ ends) stop zero h l = (omega arith, h.0, reach end ends stop h.1)
bounds start (end ∷ ends) stop (suc i) h l =
    let r = bounds end ends stop i h.1 (omega arith) in
    (omega (arith, h.0, r.0), r.1, r.2)

pub piece_at : (start : ℕ) (ends : List ℕ) (bs : Bytes) (i : ℕ) → Rises start ends (start + length bs) → i < length ends
    → get_or (pieces start ends bs) i [] ≡ take (get_or ends i 0 - get_or (start ∷ ends) i 0) (drop (get_or (start ∷ ends) i 0 - start) bs)
piece_at start [] bs i h l = absurd (omega arith)
piece_at start (end ∷ ends) bs zero h l = simp sub_self
piece_at start (end ∷ ends) bs (suc i) h l =
    let rest = drop (end - start) bs in
    let s = get_or (end ∷ ends) i 0 in
    let low : start ≤ end = h.0 in
    let far = reach end ends (start + length bs) h.1 in
    let left : end + length rest ≡ start + length bs = simp length-drop (omega arith) in
    let b = bounds end ends (start + length bs) i h.1 (omega arith) in
    let gap : (end - start) + (s - end) ≡ s - start = omega (arith, b.0) in
    piece_at end ends rest i (rw left h.1) (omega arith)
    ∙ ap (take (get_or ends i 0 - s)) (drop-drop (s - end) (end - start) bs ∙ ap (λ k. drop k bs) gap)

pub pieces_push : (start : ℕ) (ends bs new : List ℕ) → Rises start ends (start + length bs)
    → pieces start (ends ++ (start + length bs + length new) ∷ []) (bs ++ new) ≡ pieces start ends bs ++ new ∷ []
pieces_push start [] bs new h =
    let none : bs ≡ [] = nil_from_length bs (omega arith) in
    let all : length (bs ++ new) ≤ start + length bs + length new - start = simp length-append (omega arith) in
    ap (λ t. t ∷ []) (take_all (start + length bs + length new - start) (bs ++ new) all ∙ ap (λ t. t ++ new) none)
pieces_push start (end ∷ ends) bs new h =
    let rest = drop (end - start) bs in
    let low : start ≤ end = h.0 in
    let far = reach end ends (start + length bs) h.1 in
    let fits : end - start ≤ length bs = omega arith in
    let left : end + length rest ≡ start + length bs = simp length-drop (omega arith) in
    let last = start + length bs + length new in
    ap (λ t. t ∷ pieces end (ends ++ last ∷ []) (drop (end - start) (bs ++ new))) (take-append-le (end - start) bs new fits)
    ∙ ap (λ t. take (end - start) bs ∷ pieces end (ends ++ last ∷ []) t) (drop-append-le (end - start) bs new fits)
    ∙ ap (λ k. take (end - start) bs ∷ pieces end (ends ++ (k + length new) ∷ []) (rest ++ new)) (sym left)
    ∙ ap (λ t. take (end - start) bs ∷ t) (pieces_push end ends rest new (rw left h.1))

pub rises_push : (start : ℕ) (ends : List ℕ) (stop last : ℕ) → Rises start ends stop → stop ≤ last → Rises start (ends ++ last ∷ []) last
rises_push start [] stop last h l = (omega arith, refl)
rises_push start (end ∷ ends) stop last h l = (h.0, rises_push end ends stop last h.1 l)

abbrev shift : ℕ → ℕ → List ℕ → List ℕ
shift back on ends = map (λ end. end - back + on) ends

pieces_shift : (start back on : ℕ) (ends bs : List ℕ) (stop : ℕ) → back ≤ start → Rises start ends stop
    → pieces (start - back + on) (shift back on ends) bs ≡ pieces start ends bs
pieces_shift start back on [] bs stop l h = refl
pieces_shift start back on (end ∷ ends) bs stop l h =
    let low : start ≤ end = h.0 in
    let same : (end - back + on) - (start - back + on) ≡ end - start = omega arith in
    ap (λ k. take k bs ∷ pieces (end - back + on) (shift back on ends) (drop k bs)) same
    ∙ ap (λ t. take (end - start) bs ∷ t) (pieces_shift end back on ends (drop (end - start) bs) stop (omega arith) h.1)

rises_shift : (start back on : ℕ) (ends : List ℕ) (stop : ℕ) → back ≤ start → Rises start ends stop
    → Rises (start - back + on) (shift back on ends) (stop - back + on)
rises_shift start back on [] stop l h = ap (λ k. k - back + on) h
rises_shift start back on (end ∷ ends) stop l h =
    let low : start ≤ end = h.0 in
    (omega arith, rises_shift end back on ends stop (omega arith) h.1)

module _ (new : List ℕ) where
  -- the bytes with others in place of those between two places
  abbrev replaced : ℕ → ℕ → List ℕ → List ℕ
  replaced from to bs = take from bs ++ (new ++ drop to bs)

  pub pieces_set : (start : ℕ) (ends bs : List ℕ) (i : ℕ) → Rises start ends (start + length bs) → i < length ends
      → pieces start (moved ends i (get_or ends i 0 - get_or (start ∷ ends) i 0) (length new)) (replaced (get_or (start ∷ ends) i 0 - start) (get_or ends i 0 - start) bs)
      ≡ set (pieces start ends bs) i new
  pieces_set start [] bs i h l = absurd (omega arith)
  pieces_set start (end ∷ ends) bs zero h l =
      let low : start ≤ end = h.0 in
      let back = end - start in
      let first : end - back + length new ≡ start + length new = omega arith in
      let long : (end - back + length new) - start ≡ length new = omega arith in
      let none : start - start ≡ 0 = omega arith in
      let tail = drop (end - start) bs in
      ap (λ k. pieces start (shift back (length new) (end ∷ ends)) (take k bs ++ (new ++ tail))) none
      ∙ ap (λ k. take k (new ++ tail) ∷ pieces (end - back + length new) (shift back (length new) ends) (drop k (new ++ tail))) long
      ∙ ap (λ t. t ∷ pieces (end - back + length new) (shift back (length new) ends) (drop (length new) (new ++ tail))) (take_at new tail (length new) refl)
      ∙ ap (λ t. new ∷ pieces (end - back + length new) (shift back (length new) ends) t) (drop_at new tail (length new) refl)
      ∙ ap (λ t. new ∷ t) (pieces_shift end back (length new) ends tail (start + length bs) (omega arith) h.1)
  pieces_set start (end ∷ ends) bs (suc i) h l =
      let s = get_or (end ∷ ends) i 0 in
      let e = get_or ends i 0 in
      let rest = drop (end - start) bs in
      let low : start ≤ end = h.0 in
      let b = bounds end ends (start + length bs) i h.1 (omega arith) in
      let far = reach end ends (start + length bs) h.1 in
      let left : end + length rest ≡ start + length bs = simp length-drop (omega arith) in
      let front : length (take (end - start) bs) ≡ end - start = omega (arith, length-take (end - start) bs) in
      let from : s - start ≡ (end - start) + (s - end) = omega (arith, b.0) in
      let to : e - start ≡ (end - start) + (e - end) = omega (arith, b.0, b.1) in
      let split : replaced (s - start) (e - start) bs ≡ take (end - start) bs ++ replaced (s - end) (e - end) rest
      = ap (λ k. replaced k (e - start) bs) from ∙ ap (λ k. replaced ((end - start) + (s - end)) k bs) to
      ∙ ap (λ t. t ++ (new ++ drop ((end - start) + (e - end)) bs)) (take-add (end - start) (s - end) bs)
      ∙ append_assoc (take (end - start) bs) (take (s - end) rest) (new ++ drop ((end - start) + (e - end)) bs)
      ∙ ap (λ t. take (end - start) bs ++ (take (s - end) rest ++ (new ++ t))) (sym (drop-drop (e - end) (end - start) bs)) in
      let tail = moved ends i (e - s) (length new) in
      ap (λ t. take (end - start) t ∷ pieces end tail (drop (end - start) t)) split
      ∙ ap (λ t. t ∷ pieces end tail (drop (end - start) (take (end - start) bs ++ replaced (s - end) (e - end) rest))) (take_at (take (end - start) bs) (replaced (s - end) (e - end) rest) (end - start) front)
      ∙ ap (λ t. take (end - start) bs ∷ pieces end tail t) (drop_at (take (end - start) bs) (replaced (s - end) (e - end) rest) (end - start) front)
      ∙ ap (λ t. take (end - start) bs ∷ t) (pieces_set end ends rest i (rw left h.1) (omega arith))

pub rises_moved : (start : ℕ) (ends : List ℕ) (stop i on : ℕ) → Rises start ends stop → i < length ends
    → Rises start (moved ends i (get_or ends i 0 - get_or (start ∷ ends) i 0) on) (stop - (get_or ends i 0 - get_or (start ∷ ends) i 0) + on)
rises_moved start [] stop i on h l = absurd (omega arith)
rises_moved start (end ∷ ends) stop zero on h l =
    let low : start ≤ end = h.0 in
    (omega arith, rises_shift end (end - start) on ends stop (omega arith) h.1)
rises_moved start (end ∷ ends) stop (suc i) on h l = (h.0, rises_moved end ends stop i on h.1 (omega arith))

pub total_set : (bs : List Bytes) (i : ℕ) (new : Bytes) → i < length bs → total_bytes (set bs i new) + length (get_or bs i []) ≡ total_bytes bs + length new
total_set [] i new h = absurd (omega arith)
total_set (b ∷ bs) zero new h = omega arith
total_set (b ∷ bs) (suc i) new h = omega (arith, total_set bs i new (omega arith))

-- the ends behind an index lie between its end and the last
pub later : (start : ℕ) (ends : List ℕ) (stop i k : ℕ) → Rises start ends stop → i ≤ k → k < length ends → (get_or ends i 0 ≤ get_or ends k 0) × (get_or ends k 0 ≤ stop)
later start [] stop i k h l m = absurd (omega arith)
later start (end ∷ ends) stop zero zero h l m = (omega arith, reach end ends stop h.1)
later start (end ∷ ends) stop zero (suc k) h l m =
    let first = bounds end ends stop k h.1 (omega arith) in
    (omega (arith, first.0, first.1), first.2)
later start (end ∷ ends) stop (suc i) zero h l m = absurd (omega arith)
later start (end ∷ ends) stop (suc i) (suc k) h l m = later end ends stop i k h.1 (omega arith) (omega arith)
