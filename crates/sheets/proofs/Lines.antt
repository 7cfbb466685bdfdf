-- A text cut at its line ends is its lines; its line ends are the places behind each 0A, and the last piece's where that has none.
use Rattle.std.proofs.Common.{◌≡◌, ℕ, suc, ◌+◌, ◌-◌, ◌<◌, ◌≤◌, Bool, true, false, cond, not, ◌&&◌, ◌||◌, eqb, List, [], ◌∷◌, ◌++◌, length, get_or, drop, sym, refl, ap, ◌∙◌, subst, append_assoc, add-zero, zero-add, arith, count_by, length-append}
use mir.Val.{bool_byte}
use Rattle.std.specs.List.{flat_map}
use Rattle.std.proofs.lemmas.Bool.{false≢true}
use Rattle.std.proofs.lemmas.Bool.Decides.{nat_tests}
use Rattle.std.proofs.lemmas.List.Sums.{sum_by-cons}
use Rattle.std.proofs.lemmas.List.{append-nil, at_drop_more, at_drop_all, take_at, drop_at, length_push}
use Rattle.sheets.specs.Table.{Bytes, pieces, line_ends}
use Rattle.sheets.specs.Calls.{in_front, text_lines, all_lines, LinesOf}
use Rattle.sheets.proofs.Pieces.{Rises, length_pieces}

not_last : (y : ℕ) (ys : Bytes) → eqb (length (y ∷ ys)) 0 ≡ false
not_last y ys = grind (arith, nat_tests)

-- the places behind each 0A of a text whose first byte stands at a place
abbrev pub marks : ℕ → Bytes → List ℕ
marks at [] = []
marks at (x ∷ xs) = cond (eqb x 10) ((at + 1) ∷ []) [] ++ marks (at + 1) xs

-- whether the last piece lacks its 0A
abbrev pub open_end : Bytes → Bool
open_end bs = not (eqb (length bs) 0) && not (eqb (get_or bs (length bs - 1) 0) 10)

open_on : (x y : ℕ) (ys : Bytes) → open_end (x ∷ (y ∷ ys)) ≡ open_end (y ∷ ys)
open_on x y ys =
    let long : length (x ∷ (y ∷ ys)) - 1 ≡ suc (length ys) = omega arith in
    let short : length (y ∷ ys) - 1 ≡ length ys = omega arith in
    simp (long, short, not_last x (y ∷ ys), not_last y ys)

line_ends_are : (at : ℕ) (bs : Bytes) → line_ends at bs ≡ marks at bs ++ cond (open_end bs) ((at + length bs) ∷ []) []
line_ends_are at [] = refl
line_ends_are at (x ∷ []) =
    elim (eqb x 10) as (λ v. cond (v || true) ((at + 1) ∷ []) [] ++ [] ≡ (cond v ((at + 1) ∷ []) [] ++ []) ++ cond (not v) ((at + 1) ∷ []) []) [ true ↦ refl | false ↦ refl ]
line_ends_are at (x ∷ (y ∷ ys)) =
    let xs = y ∷ ys in
    let here = cond (eqb x 10) ((at + 1) ∷ []) [] in
    let sum : at + 1 + length xs ≡ at + length (x ∷ xs) = omega arith in
    ap (λ v. cond (eqb x 10 || v) ((at + 1) ∷ []) [] ++ line_ends (at + 1) xs) (not_last y ys)
    ∙ elim (eqb x 10) as (λ v. cond (v || false) ((at + 1) ∷ []) [] ++ line_ends (at + 1) xs ≡ cond v ((at + 1) ∷ []) [] ++ line_ends (at + 1) xs) [ true ↦ refl | false ↦ refl ]
    ∙ ap (λ t. here ++ t) (line_ends_are (at + 1) (y ∷ ys))
    ∙ sym (append_assoc here (marks (at + 1) xs) (cond (open_end xs) ((at + 1 + length xs) ∷ []) []))
    ∙ ap (λ (n : ℕ). marks at (x ∷ xs) ++ cond (open_end xs) (n ∷ []) []) sum
    ∙ ap (λ v. marks at (x ∷ xs) ++ cond v ((at + length (x ∷ xs)) ∷ []) []) (sym (open_on x y ys))

count_marks : (at : ℕ) (bs : Bytes) → length (marks at bs) ≡ count_by (λ x. eqb x 10) bs
count_marks at [] = refl
count_marks at (x ∷ xs) =
    elim (eqb x 10) as (λ v. length (cond v ((at + 1) ∷ []) [] ++ marks (at + 1) xs) ≡ cond v 1 0 + count_by (λ x. eqb x 10) xs) [
      | true ↦ omega (arith, count_marks (at + 1) xs)
      | false ↦ omega (arith, count_marks (at + 1) xs)
    ]
    ∙ sym (sum_by-cons (λ x. cond (eqb x 10) 1 0) x xs)

module _ (text : Bytes) where
  pub line_ends_open : true ≡ open_end text → line_ends 0 text ≡ marks 0 text ++ length text ∷ []
  line_ends_open e = line_ends_are 0 text ∙ ap (λ v. marks 0 text ++ cond v ((0 + length text) ∷ []) []) (sym e) ∙ ap (λ (n : ℕ). marks 0 text ++ n ∷ []) (zero-add (length text))

  pub line_ends_closed : false ≡ open_end text → line_ends 0 text ≡ marks 0 text
  line_ends_closed e = line_ends_are 0 text ∙ ap (λ v. marks 0 text ++ cond v ((0 + length text) ∷ []) []) (sym e) ∙ append-nil (marks 0 text)

  pub line_ends_count : (v : Bool) → v ≡ open_end text → length (line_ends 0 text) ≡ count_by (λ x. eqb x 10) text + bool_byte v
  line_ends_count true e = omega (arith, ap length (line_ends_open e), length_push (marks 0 text) (length text), count_marks 0 text)
  line_ends_count false e = omega (arith, ap length (line_ends_closed e), count_marks 0 text)

  pub marks_fit : length (marks 0 text) ≤ length (line_ends 0 text)
  marks_fit = omega (arith, simp length-append at (ap length (line_ends_are 0 text)))

  -- with no byte left all marks are made
  pub all_made : (old new : List ℕ) (i : ℕ) → new ++ marks i (drop i text) ≡ old ++ marks 0 text → length text ≤ i → new ≡ old ++ marks 0 text
  all_made old new i e h = sym (append-nil new) ∙ ap (λ t. new ++ t) (sym (at_drop_all (marks i) text i h)) ∙ e

  -- the marks from an index on
  module _ (i : ℕ) (h : i < length text) where
    step : marks i (drop i text) ≡ cond (eqb (get_or text i 0) 10) ((i + 1) ∷ []) [] ++ marks (i + 1) (drop (i + 1) text)
    step = at_drop_more (marks i) text i 0 h

    pub marks_yes : get_or text i 0 ≡ 10 → marks i (drop i text) ≡ (i + 1) ∷ marks (i + 1) (drop (i + 1) text)
    marks_yes e = step ∙ ap (λ (x : ℕ). cond (eqb x 10) ((i + 1) ∷ []) [] ++ marks (i + 1) (drop (i + 1) text)) e

    pub marks_no : (get_or text i 0 ≡ 10 → ⊥) → marks i (drop i text) ≡ marks (i + 1) (drop (i + 1) text)
    marks_no e =
        let none : eqb (get_or text i 0) 10 ≡ false = grind (arith, nat_tests) in
        step ∙ ap (λ v. cond v ((i + 1) ∷ []) [] ++ marks (i + 1) (drop (i + 1) text)) none

-- a line begun with p
abbrev begun : Bytes → List Bytes → List Bytes
begun p [] = []
begun p (l ∷ ls) = (p ++ l) ∷ ls

some_line : (x : ℕ) (xs : Bytes) → (l : Bytes) × ((ls : List Bytes) × (text_lines (x ∷ xs) ≡ l ∷ ls))
some_line x xs =
    elim (eqb x 10) as (λ v. (l : Bytes) × ((ls : List Bytes) × (cond v ((x ∷ []) ∷ text_lines xs) (in_front x (text_lines xs)) ≡ l ∷ ls))) [
      | true ↦ (x ∷ [], (text_lines xs, refl))
      | false ↦ elim (text_lines xs) as (λ v. (l : Bytes) × ((ls : List Bytes) × (in_front x v ≡ l ∷ ls))) [
        | [] ↦ (x ∷ [], ([], refl))
        | l ∷ ls ↦ (x ∷ l, (ls, refl))
      ]
    ]

begun_in_front : (p : Bytes) (x y : ℕ) (ys : Bytes) → begun (p ++ x ∷ []) (text_lines (y ∷ ys)) ≡ begun p (in_front x (text_lines (y ∷ ys)))
begun_in_front p x y ys =
    let s = some_line y ys in
    ap (begun (p ++ x ∷ [])) s.1.1 ∙ ap (λ l. l ∷ s.1.0) (append_assoc p (x ∷ []) s.0) ∙ sym (ap (λ ls. begun p (in_front x ls)) s.1.1)

begun_none : (ls : List Bytes) → begun [] ls ≡ ls
begun_none [] = refl
begun_none (l ∷ ls) = refl

-- the text behind p, the line's bytes so far, cut at its line ends, where the line ends with x
closed : (p : Bytes) (x : ℕ) (xs : Bytes) (start at : ℕ) → at ≡ start + length p → pieces (at + 1) (line_ends (at + 1) xs) xs ≡ begun [] (text_lines xs)
    → pieces start ((at + 1) ∷ line_ends (at + 1) xs) (p ++ x ∷ xs) ≡ (p ++ x ∷ []) ∷ text_lines xs
closed p x xs start at e rest =
    let line = p ++ x ∷ [] in
    let long : length line ≡ (at + 1) - start = omega (arith, length_push p x) in
    ap (pieces start ((at + 1) ∷ line_ends (at + 1) xs)) (sym (append_assoc p (x ∷ []) xs))
    ∙ ap (λ t. t ∷ pieces (at + 1) (line_ends (at + 1) xs) (drop ((at + 1) - start) (line ++ xs))) (take_at line xs ((at + 1) - start) long)
    ∙ ap (λ t. line ∷ pieces (at + 1) (line_ends (at + 1) xs) t) (drop_at line xs ((at + 1) - start) long)
    ∙ ap (λ t. line ∷ t) (rest ∙ begun_none (text_lines xs))

-- the same wherever the line ends
cut_at : (p t : Bytes) (start at : ℕ) → at ≡ start + length p → pieces start (line_ends at t) (p ++ t) ≡ begun p (text_lines t)
cut_at p [] start at e = refl
cut_at p (x ∷ []) start at e =
    let cut = closed p x [] start at e refl in
    elim (eqb x 10) as (λ v. pieces start (cond (v || true) ((at + 1) ∷ []) [] ++ []) (p ++ x ∷ []) ≡ begun p (cond v ((x ∷ []) ∷ []) (in_front x []))) [ true ↦ cut | false ↦ cut ]
cut_at p (x ∷ (y ∷ ys)) start at e =
    let xs = y ∷ ys in
    let here = closed p x xs start at e (cut_at [] (y ∷ ys) (at + 1) (at + 1) (sym (add-zero (at + 1)))) in
    let on : pieces start (line_ends (at + 1) xs) (p ++ x ∷ xs) ≡ begun p (in_front x (text_lines xs))
    = ap (pieces start (line_ends (at + 1) xs)) (sym (append_assoc p (x ∷ []) xs))
    ∙ cut_at (p ++ x ∷ []) (y ∷ ys) start (at + 1) (omega (arith, length_push p x)) ∙ begun_in_front p x y ys in
    let goal : Bool → Bool → Type 0 = λ v w. pieces start (cond (v || w) ((at + 1) ∷ []) [] ++ line_ends (at + 1) xs) (p ++ x ∷ xs) ≡ begun p (cond v ((x ∷ []) ∷ text_lines xs) (in_front x (text_lines xs))) in
    elim (eqb x 10) as (λ v. goal v (eqb (length xs) 0)) [ true ↦ here | false ↦ subst (goal false) (sym (not_last y ys)) on ]

pub lines_are : (text : Bytes) → pieces 0 (line_ends 0 text) text ≡ text_lines text
lines_are text = cut_at [] text 0 0 refl ∙ begun_none (text_lines text)

pub length_lines : (text : Bytes) → length (text_lines text) ≡ length (line_ends 0 text)
length_lines text = ap length (sym (lines_are text)) ∙ length_pieces 0 (line_ends 0 text) text

-- the line ends rise to the end of the text
pub line_ends_rise : (start at : ℕ) (t : Bytes) → start ≤ at → (length t ≡ 0 → start ≡ at) → Rises start (line_ends at t) (at + length t)
line_ends_rise start at [] l e = e refl ∙ sym (add-zero at)
line_ends_rise start at (x ∷ []) l e =
    let end : Rises start ((at + 1) ∷ []) (at + 1) = (omega arith, refl) in
    elim (eqb x 10) as (λ v. Rises start (cond (v || true) ((at + 1) ∷ []) [] ++ []) (at + 1)) [ true ↦ end | false ↦ end ]
line_ends_rise start at (x ∷ (y ∷ ys)) l e =
    let xs = y ∷ ys in
    let stop : (at + 1) + length xs ≡ at + length (x ∷ xs) = omega arith in
    let goal : Bool → Bool → Type 0 = λ v w. Rises start (cond (v || w) ((at + 1) ∷ []) [] ++ line_ends (at + 1) xs) (at + length (x ∷ xs)) in
    let here : goal true true = (omega arith, rw stop at (line_ends_rise (at + 1) (at + 1) (y ∷ ys) (omega arith) (λ h. refl))) in
    let on : goal false false = rw stop at (line_ends_rise start (at + 1) (y ∷ ys) (omega arith) (λ h. absurd (omega arith))) in
    elim (eqb x 10) as (λ v. goal v (eqb (length xs) 0)) [ true ↦ here | false ↦ subst (goal false) (sym (not_last y ys)) on ]

-- the lines joined are the text, and each is a line
joined_in_front : (x : ℕ) (ls : List Bytes) → flat_map (λ (l : Bytes). l) (in_front x ls) ≡ x ∷ flat_map (λ (l : Bytes). l) ls
joined_in_front x [] = refl
joined_in_front x (l ∷ ls) = refl

lines_join : (text : Bytes) → flat_map (λ (l : Bytes). l) (text_lines text) ≡ text
lines_join [] = refl
lines_join (x ∷ xs) =
    elim (eqb x 10) as (λ v. flat_map (λ (l : Bytes). l) (cond v ((x ∷ []) ∷ text_lines xs) (in_front x (text_lines xs))) ≡ x ∷ xs) [
      | true ↦ ap (λ t. x ∷ t) (lines_join xs)
      | false ↦ joined_in_front x (text_lines xs) ∙ ap (λ t. x ∷ t) (lines_join xs)
    ]

fronted : (x : ℕ) (ls : List Bytes) → eqb x 10 ≡ false → all_lines ls ≡ true → all_lines (in_front x ls) ≡ true
fronted x [] e h = simp e
fronted x ([] ∷ []) e h = absurd (false≢true h)
fronted x ((y ∷ ys) ∷ []) e h = simp e h
fronted x ([] ∷ (m ∷ ms)) e h = absurd (false≢true h)
fronted x ((y ∷ ys) ∷ (m ∷ ms)) e h = simp e h

ended_front : (x : ℕ) (ls : List Bytes) → eqb x 10 ≡ true → all_lines ls ≡ true → all_lines ((x ∷ []) ∷ ls) ≡ true
ended_front x [] e h = simp e
ended_front x (m ∷ ms) e h = simp e h

lines_each : (text : Bytes) → all_lines (text_lines text) ≡ true
lines_each [] = refl
lines_each (x ∷ xs) =
    let goal : Bool → Type 0 = λ v. eqb x 10 ≡ v → all_lines (cond v ((x ∷ []) ∷ text_lines xs) (in_front x (text_lines xs))) ≡ true in
    let both : (v : Bool) → goal v = λ v. elim v as goal [ true ↦ λ e. ended_front x (text_lines xs) e (lines_each xs) | false ↦ λ e. fronted x (text_lines xs) e (lines_each xs) ] in
    both (eqb x 10) refl

pub lines_law : (text : Bytes) → LinesOf text (text_lines text)
lines_law text = record { joins = lines_join text; each = lines_each text }
