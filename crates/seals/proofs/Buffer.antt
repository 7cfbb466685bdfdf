-- Pieces written to a buffer one behind another.
use Rattle.std.specs.Prelude.{◌≡◌, ℕ, ◌+◌, ◌-◌, ◌≤◌, List, ◌++◌, length, take, drop}
use Rattle.std.proofs.Common.{sym, refl, ap, ◌∙◌, arith, append_assoc, length-append}
use Rattle.std.proofs.lemmas.List.{drop-drop, take_at}
use Rattle.std.proofs.lemmas.Slice.{take-put_mid, drop-put_mid, drop-append-drop}
use borrow.Rule.Slice.PartMut.{put_mid}

-- a piece from p to s and another from s to e
pub two_pieces : (xs a b : List ℕ) (p s e : ℕ) → s ≡ p + length a → e ≡ s + length b → e ≤ length xs
    → put_mid s (e - s) (put_mid p (s - p) xs a) b ≡ take p xs ++ (a ++ (b ++ drop e xs))
two_pieces xs a b p s e first second room =
    let one = put_mid p (s - p) xs a in
    let front : take s one ≡ take p xs ++ a = take-put_mid p (s - p) xs a s first (omega arith) in
    let on : s + (e - s) ≡ e = omega arith in
    let back : drop (e - s) (drop s one) ≡ drop e xs
    = drop-drop (e - s) s one ∙ ap (λ k. drop k one) on ∙ drop-put_mid p (s - p) xs a e (omega arith) (omega arith) (omega arith) in
    ap (λ k. k ++ (b ++ drop (e - s) (drop s one))) front ∙ ap (λ k. (take p xs ++ a) ++ (b ++ k)) back ∙ append_assoc (take p xs) a (b ++ drop e xs)

-- a piece behind those that are done
pub piece_behind : (before done piece out : List ℕ) (place e : ℕ) → out ≡ done ++ drop (length done) before → place ≡ length done → e ≡ place + length piece
    → take place out ++ (piece ++ drop e out) ≡ (done ++ piece) ++ drop (length (done ++ piece)) before
piece_behind before done piece out place e here at stop =
    let end : e ≡ length (done ++ piece) = omega (arith, length-append done piece) in
    let front : take place out ≡ done = ap (take place) here ∙ take_at done (drop (length done) before) place (omega arith) in
    let back : drop e out ≡ drop e before = ap (drop e) here ∙ drop-append-drop (length done) before done e (omega arith) refl in
    ap (λ k. k ++ (piece ++ drop e out)) front ∙ ap (λ k. done ++ (piece ++ k)) back ∙ sym (append_assoc done piece (drop e before))
    ∙ ap (λ k. (done ++ piece) ++ drop k before) end
