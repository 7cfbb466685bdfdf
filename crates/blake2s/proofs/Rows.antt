-- Every entry of sigma is the number of a message word.
use Rattle.std.proofs.Common.{◌≡◌, ℕ, zero, suc, ◌<◌, Bool, true, ◌&&◌, ltb, List, [], ◌∷◌, get_or, refl, lit<, ltb-true}
use lib.Lanes.{all_below}
use Rattle.std.proofs.lemmas.Bool.{and_parts}
use Rattle.blake2s.specs.Blake2s.{sigma}

below : (xs : List ℕ) (k : ℕ) → all_below 16 xs ≡ true → get_or xs k 0 < 16
below [] k h = lit< tt
below (x ∷ xs) zero h = ltb-true x 16 (and_parts (ltb x 16) (all_below 16 xs) h).0
below (x ∷ xs) (suc k) h = below xs k (and_parts (ltb x 16) (all_below 16 xs) h).1

abbrev all_rows : List (List ℕ) → Bool
all_rows [] = true
all_rows (row ∷ rows) = all_below 16 row && all_rows rows

in_row : (rows : List (List ℕ)) (r k : ℕ) → all_rows rows ≡ true → get_or (get_or rows r []) k 0 < 16
in_row [] r k h = lit< tt
in_row (row ∷ rows) zero k h = below row k (and_parts (all_below 16 row) (all_rows rows) h).0
in_row (row ∷ rows) (suc r) k h = in_row rows r k (and_parts (all_below 16 row) (all_rows rows) h).1

pub sigma_below : (r k : ℕ) → get_or (get_or sigma r []) k 0 < 16
sigma_below r k = in_row sigma r k refl
