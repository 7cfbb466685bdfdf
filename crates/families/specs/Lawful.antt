-- Each kind keeps the law of a family.
use Rattle.std.specs.Prelude.{◌≡◌, ℕ, ◌*◌, ◌^◌, ◌≤◌, true, eqb}
use Rattle.std.proofs.Common.{mul-le-mul, arith}
use Rattle.std.proofs.Math.Nat.{one-le-pow}
use Rattle.std.proofs.lemmas.Bool.Decides.{nat_tests}
use Rattle.families.specs.Numbers.{among}
use Rattle.families.specs.Shape.{Lawful}
use Rattle.families.specs.Field.{orders, FieldLaws}
use Rattle.families.specs.Polynomial.{coefficient_counts, poly_blocks, poly_held, poly_strength, poly_shape}
use Rattle.families.specs.Single.{single_shape}
use Rattle.families.specs.Halves.{halves_held, halves_rows, halves_shape}
use Rattle.families.specs.Plane.{plane_held, plane_shape}
use Rattle.families.specs.Bounded.{bounded_inside}
use Rattle.families.specs.SingleLaw.{single_cover_free}
use Rattle.families.specs.HalvesLaw.{halves_cover_free, rows_range}
use Rattle.families.specs.PlaneLaw.{plane_cover_free}
use Rattle.families.specs.PolynomialLaw.{polynomial_cover_free}
use Rattle.families.specs.Primes.{all_among}

pub single_lawful : (n : ℕ) → 1 ≤ n → n ≤ 512 → Lawful (single_shape n)
single_lawful n some most =
    record {
      kind_range = (omega arith, omega arith);
      q_range = omega arith;
      k_range = omega arith;
      blocks_range = (some, most);
      rows_range = (some, most);
      strength_range = (some, most);
      inside = bounded_inside n n eqb;
      covers = single_cover_free n;
    }

pub halves_lawful : (n : ℕ) → 1 ≤ n → n ≤ 512 → Lawful (halves_shape n)
halves_lawful n some most =
    let rows = rows_range n (omega arith) in
    record {
      kind_range = (omega arith, omega arith);
      q_range = omega arith;
      k_range = omega arith;
      blocks_range = (some, most);
      rows_range = (omega (arith, rows.0), omega (arith, rows.1));
      strength_range = (omega arith, omega arith);
      inside = bounded_inside n (halves_rows n) (halves_held (halves_rows n));
      covers = halves_cover_free n (omega arith);
    }

pub plane_lawful : (n : ℕ) → 1 ≤ n → n ≤ 12 → Lawful (plane_shape n)
plane_lawful n some most =
    record {
      kind_range = (omega arith, omega arith);
      q_range = omega arith;
      k_range = omega arith;
      blocks_range = (some, omega arith);
      rows_range = (omega arith, omega arith);
      strength_range = (omega arith, omega arith);
      inside = bounded_inside n 9 plane_held;
      covers = plane_cover_free n most;
    }

-- the numbers of a polynomial family, for each q and k on offer
abbrev Sizes : ℕ → ℕ → Type 0
Sizes q k = (1 ≤ poly_strength q k) × (poly_strength q k ≤ 512)

sizes : (q : ℕ) → among q orders ≡ true → (k : ℕ) → among k coefficient_counts ≡ true → Sizes q k
sizes =
    all_among (λ q. (k : ℕ) → among k coefficient_counts ≡ true → Sizes q k) orders
    (of_q 5 (omega arith) (omega arith), (of_q 7 (omega arith) (omega arith), (of_q 8 (omega arith) (omega arith), (of_q 11 (omega arith) (omega arith), (of_q 13 (omega arith) (omega arith), (of_q 16 (omega arith) (omega arith), tt))))))
  where
    of_q : (q : ℕ) → 5 ≤ q → q ≤ 16 → (k : ℕ) → among k coefficient_counts ≡ true → Sizes q k
    of_q q low high = all_among (Sizes q) coefficient_counts ((omega arith, omega arith), ((omega arith, omega arith), ((omega arith, omega arith), tt)))

pub offered_range : (q : ℕ) → among q orders ≡ true → (5 ≤ q) × (q ≤ 16)
offered_range q e = grind (arith, nat_tests)

pub degree_range : (k : ℕ) → among k coefficient_counts ≡ true → (2 ≤ k) × (k ≤ 4)
degree_range k e = grind (arith, nat_tests)

pub poly_lawful : (q : ℕ) (sum product : ℕ → ℕ → ℕ) → FieldLaws q sum product → among q orders ≡ true
    → (k n : ℕ) → among k coefficient_counts ≡ true → 1 ≤ n → n ≤ 512 → Lawful (poly_shape q sum product k n)
poly_lawful q sum product F offered k n degree some most =
    let range = offered_range q offered in
    let ks = degree_range k degree in
    let square : q * q ≤ 16 * 16 = mul-le-mul range.1 range.1 in
    let one : 1 ≤ q = omega (arith, range.0) in
    let line : 1 * 1 ≤ q * q = mul-le-mul one one in
    let powers : 1 ≤ q ^ k = one-le-pow k q one in
    record {
      kind_range = (omega arith, omega arith);
      q_range = omega (arith, range.1);
      k_range = omega (arith, ks.1);
      blocks_range = (omega arith, omega arith);
      rows_range = (omega arith, omega arith);
      strength_range = sizes q offered k degree;
      inside = bounded_inside (poly_blocks q k n) (q * q) (poly_held q sum product k);
      covers = polynomial_cover_free q sum product F k n;
    }
