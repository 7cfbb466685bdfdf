-- How the code takes the rounds apart. Assumes nothing.
use Rattle.std.specs.Prelude.{ℕ, List, drop}
use Rattle.sha256.specs.declared.state.State.{State}
use Rattle.sha256.specs.Sha256.{plus, Σ0, Σ1, Ch, Maj, extended}

-- a round with the sum of its constant and its word
unfoldable pub summed_round : State → ℕ → State
summed_round s kw =
    let T1 = plus (plus (plus s.h (Σ1 s.e)) (Ch s.e s.f s.g)) kw in
    let T2 = plus (Σ0 s.a) (Maj s.a s.b s.c) in
    record { a = plus T1 T2; b = s.a; c = s.b; d = s.c; e = plus s.d T1; f = s.e; g = s.f; h = s.g }

-- the four words that follow sixteen
unfoldable pub four_more : List ℕ → List ℕ
four_more ws = drop 16 (extended 4 ws)

-- the sixteen words that follow sixteen
unfoldable pub sixteen_more : List ℕ → List ℕ
sixteen_more ws = drop 16 (extended 16 ws)
