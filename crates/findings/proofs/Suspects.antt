-- One suspect more, and the end of them.
use Rattle.std.specs.Prelude.{◌≡◌, ℕ, ◌+◌, ◌<◌, ◌≤◌, List, ◌++◌, length, drop, slice_index}
use Rattle.std.proofs.Common.{sym, ap, ◌∙◌, append_assoc}
use Rattle.std.proofs.lemmas.List.{append-nil, drop_more, drop_all}
use Rattle.sheets.specs.Table.{Bytes}
use Rattle.findings.specs.Checked.{suspect_line, suspect_lines}

pub suspects_more : (bs : List Bytes) (js : List ℕ) (i : ℕ) (old new all : Bytes) → i < length js → new ≡ old ++ suspect_line bs (slice_index js i)
    → old ++ suspect_lines bs (drop i js) ≡ all → new ++ suspect_lines bs (drop (i + 1) js) ≡ all
unfolding suspect_lines
suspects_more bs js i old new all low e f =
    let line = suspect_line bs (slice_index js i) in
    let rest = suspect_lines bs (drop (i + 1) js) in
    ap (λ t. t ++ rest) e ∙ append_assoc old line rest ∙ ap (λ t. old ++ t) (sym (ap (suspect_lines bs) (drop_more js i 0 low))) ∙ f

pub suspects_all : (bs : List Bytes) (js : List ℕ) (i : ℕ) (old all : Bytes) → length js ≤ i → old ++ suspect_lines bs (drop i js) ≡ all → old ≡ all
unfolding suspect_lines
suspects_all bs js i old all low f = sym (append-nil old) ∙ ap (λ t. old ++ t) (sym (ap (suspect_lines bs) (drop_all i js low))) ∙ f
