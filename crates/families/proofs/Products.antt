-- Products of a binary field by the table of all.
use Rattle.std.proofs.Common.{◌≡◌, ℕ, ◌%◌, true, [], get_or, refl, sym, ◌∙◌, arith}
use Rattle.families.specs.Numbers.{among}
use Rattle.families.specs.Field.{binaries, binary_product, tabled}
use Rattle.families.specs.Choice.{product_of}
use Rattle.families.specs.Primes.{all_among}
use Rattle.families.specs.Binary.{binary_fields, table_at}

abbrev AtPlaces : ℕ → Type 0
AtPlaces q = (a b : ℕ) → get_or (get_or (tabled (product_of q) q) (a % q) []) (b % q) 0 ≡ product_of q a b

pub product_at : (q : ℕ) → among q binaries ≡ true → AtPlaces q
product_at = all_among AtPlaces binaries (at_8, (at_16, tt))
  where
    at_8 : AtPlaces 8
    at_8 a b =
        let f = binary_product 3 0b1011 in
        table_at (tabled f 8) f 8 refl (a % 8) (b % 8) (omega arith) (omega arith) ∙ sym (binary_fields.0.product_reduced a b)

    at_16 : AtPlaces 16
    at_16 a b =
        let f = binary_product 4 0b10011 in
        table_at (tabled f 16) f 16 refl (a % 16) (b % 16) (omega arith) (omega arith) ∙ sym (binary_fields.1.0.product_reduced a b)
