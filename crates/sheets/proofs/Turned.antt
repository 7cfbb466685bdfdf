-- A list whose part behind a place is exchanged or turned: the steps of a replacement, and the table after its later ends moved.
use Rattle.std.proofs.Common.{◌≡◌, ℕ, ◌+◌, ◌-◌, ◌≤◌, List, [], ◌++◌, Vec, Global, vec_items, map, length, take, drop, sym, ap, ◌∙◌, append_assoc, arith, length-append, length-drop}
use Rattle.std.specs.Vec.{with_items}
use borrow.Rule.Slice.PartMut.{put_mid, post_of}
use Rattle.std.proofs.lemmas.List.{length-map, with_items_is, drop-drop, drop_all, take_at, drop_at, length-take-le, take_rest, append-nil, take-append-drop}
use Rattle.sheets.proofs.Pieces.{moved}

-- another part behind a place
pub part_put : (v : Vec ℕ Global) (xs part : List ℕ) (i : ℕ) → length xs ≡ v.len → i ≤ length xs → length part ≡ length xs - i
    → vec_items (with_items v (put_mid i (length xs - i) xs part)) ≡ take i xs ++ part
part_put v xs part i all h l =
    let none : post_of i (length xs - i) xs ≡ [] = drop-drop (length xs - i) i xs ∙ drop_all (i + (length xs - i)) xs (omega arith) in
    let put : put_mid i (length xs - i) xs part ≡ take i xs ++ part = ap (λ t. take i xs ++ (part ++ t)) none ∙ ap (λ t. take i xs ++ t) (append-nil part) in
    with_items_is v _ (ap length put ∙ length-append (take i xs) part ∙ omega (arith, length-take-le i xs h)) ∙ put

pub part_moved : (v : Vec ℕ Global) (xs part : List ℕ) (i back on : ℕ) → xs ≡ vec_items v → i ≤ length xs → part ≡ map (λ end. end - back + on) (take (length xs - i) (drop i xs))
    → vec_items (with_items v (put_mid i (length xs - i) xs part)) ≡ moved (vec_items v) i back on
part_moved v xs part i back on same h e =
    let behind : part ≡ map (λ end. end - back + on) (drop i xs) = e ∙ simp take_rest in
    let long = ap length behind ∙ length-map (drop i xs) (λ end. end - back + on) ∙ length-drop i xs in
    part_put v xs part i (ap length same ∙ sym v.ok.0) h long ∙ ap (λ t. take i xs ++ t) behind ∙ ap (λ t. moved t i back on) same

-- the part behind a place turned, so that q stands before p
module _ (front p q xs part : List ℕ) (start : ℕ) (s : length front ≡ start) (e : xs ≡ front ++ (p ++ q)) where
  behind : take (length xs - start) (drop start xs) ≡ p ++ q
  behind = take_rest xs start ∙ ap (drop start) e ∙ drop_at front (p ++ q) start s

  pub turned_left : (n : ℕ) → n ≡ length p → part ≡ drop n (take (length xs - start) (drop start xs)) ++ take n (take (length xs - start) (drop start xs)) → take start xs ++ part ≡ front ++ (q ++ p)
  turned_left n l h =
      ap (λ t. take start t ++ part) e ∙ ap (λ t. t ++ part) (take_at front (p ++ q) start s)
      ∙ ap (λ t. front ++ t) (h ∙ ap (λ t. drop n t ++ take n t) behind ∙ ap (λ t. t ++ take n (p ++ q)) (drop_at p q n (sym l)) ∙ ap (λ t. q ++ t) (take_at p q n (sym l)))

  pub turned_right : (n : ℕ) → n ≡ length q
      → part ≡ drop (length (take (length xs - start) (drop start xs)) - n) (take (length xs - start) (drop start xs)) ++ take (length (take (length xs - start) (drop start xs)) - n) (take (length xs - start) (drop start xs))
      → take start xs ++ part ≡ front ++ (q ++ p)
  turned_right n l h = turned_left (length (take (length xs - start) (drop start xs)) - n) (omega (arith, ap length behind, length-append p q)) h

-- a list in three pieces, and without the last two once these have changed places
module _ (xs : List ℕ) (start end : ℕ) (low : start ≤ end) (high : end ≤ length xs) where
  pub in_three : xs ≡ take start xs ++ (take (end - start) (drop start xs) ++ drop end xs)
  in_three =
      let gap : start + (end - start) ≡ end = omega arith in
      let rest : drop (end - start) (drop start xs) ≡ drop end xs = drop-drop (end - start) start xs ∙ ap (λ k. drop k xs) gap in
      sym (ap (λ t. take start xs ++ (take (end - start) (drop start xs) ++ t)) (sym rest) ∙ ap (λ t. take start xs ++ t) (take-append-drop (end - start) (drop start xs)) ∙ take-append-drop start xs)

  pub first_two : (n : ℕ) → n ≡ length xs - (end - start) → take n (take start xs ++ (drop end xs ++ take (end - start) (drop start xs))) ≡ take start xs ++ drop end xs
  first_two n e =
      ap (take n) (sym (append_assoc (take start xs) (drop end xs) (take (end - start) (drop start xs))))
      ∙ take_at (take start xs ++ drop end xs) (take (end - start) (drop start xs)) n (length-append (take start xs) (drop end xs) ∙ omega (arith, length-take-le start xs (omega arith), length-drop end xs))
