-- One piece more of those that a digest takes.
use Rattle.std.proofs.Common.{◌≡◌, ℕ, zero, suc, ◌+◌, List, [], ◌++◌, map, replicate, sym, refl, ap, ◌∙◌, append_assoc, add-one}
use Rattle.std.specs.List.{flat_map}
use Rattle.std.proofs.lemmas.List.{append-nil}
use Rattle.std.proofs.lemmas.List.Folds.{flat_map-map}
use Rattle.scripts.specs.Words.{Bytes}
use Rattle.vectors.specs.Pieced.{repeated}

once_more : (n : ℕ) (piece : Bytes) → flat_map (λ p. p) (replicate n piece) ++ piece ≡ flat_map (λ p. p) (replicate (suc n) piece)
once_more zero piece = sym (append-nil piece)
once_more (suc n) piece = append_assoc piece (flat_map (λ p. p) (replicate n piece)) piece ∙ ap (λ t. piece ++ t) (once_more n piece)

pub repeated_more : (n : ℕ) (piece : Bytes) → repeated n piece ++ piece ≡ repeated (n + 1) piece
unfolding repeated
repeated_more n piece = once_more n piece ∙ ap (λ k. flat_map (λ p. p) (replicate k piece)) (sym (add-one n))

pub repeated_none : (piece : Bytes) → [] ≡ repeated 0 piece
unfolding repeated
repeated_none piece = refl

-- joining what pieces hold, or what they hold in turn
pub joined_map : {X A : Type 0} (f : X → List A) (xs : List X) → flat_map f xs ≡ flat_map (λ p. p) (map f xs)
joined_map f xs = sym (flat_map-map (λ p. p) f xs)
