-- Rows of four words, written out.
use Rattle.std.proofs.Common.{◌≡◌, ℕ, List, [], ◌∷◌, length, get_or, sym, ap, ◌∙◌}
use Rattle.std.proofs.lemmas.Simd.{pick_l_whole}
use Rattle.blake2s.specs.declared.rounds.Rows.{Rows}

abbrev pub spelled : List ℕ → List ℕ
spelled xs = get_or xs 0 0 ∷ get_or xs 1 0 ∷ get_or xs 2 0 ∷ get_or xs 3 0 ∷ []

pub four : (xs : List ℕ) → length xs ≡ 4 → xs ≡ spelled xs
four xs long = sym (pick_l_whole 0 xs 4 long)

abbrev pub shown : Rows → Rows
shown v = record { a = spelled v.a; b = spelled v.b; c = spelled v.c; d = spelled v.d }

pub as_shown : (v : Rows) → length v.a ≡ 4 → length v.b ≡ 4 → length v.c ≡ 4 → length v.d ≡ 4 → v ≡ shown v
as_shown v la lb lc ld =
    ap (λ (a : List ℕ). record { a = a; b = v.b; c = v.c; d = v.d }) (four v.a la)
    ∙ ap (λ (b : List ℕ). record { a = spelled v.a; b = b; c = v.c; d = v.d }) (four v.b lb)
    ∙ ap (λ (c : List ℕ). record { a = spelled v.a; b = spelled v.b; c = c; d = v.d }) (four v.c lc)
    ∙ ap (λ (d : List ℕ). record { a = spelled v.a; b = spelled v.b; c = spelled v.c; d = d }) (four v.d ld)
