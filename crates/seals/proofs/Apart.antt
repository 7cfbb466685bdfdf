-- The rows that fail fix the changed blocks.
use Rattle.std.proofs.Common.{◌≡◌, ℕ, ◌≤◌, true, false, not, eqb, List, [], ◌∷◌, length, sym, refl, ◌∙◌, inl, inr, arith}
use Rattle.std.proofs.lemmas.Bool.{both_ways, or_cases, or_right, eqb-true}
use Rattle.digests.specs.Strings.{Bytes}
use Rattle.families.specs.Family.{Rising, touches}
use Rattle.families.proofs.Apart.{has, has_above, member, tells_apart}
use Rattle.seals.specs.Scheme.{Scheme, Inspection}
use Rattle.seals.specs.Calls.{passes}
use Rattle.seals.specs.Law.{Call, after_all, NotAClash, changed}
use Rattle.seals.specs.Law.Image.{row}
use Rattle.seals.proofs.Established.{Established}
use Rattle.seals.proofs.Numbers.{has_first}
use Rattle.seals.proofs.CheckLaw.{changed_set, row_fails}

-- what lies above a number and in a set that begins with it lies in the set's rest
later : (n y : ℕ) (zs ys : List ℕ) → Rising n y zs → ((j : ℕ) → has j zs ≡ true → has j (y ∷ ys) ≡ true) → (j : ℕ) → has j zs ≡ true → has j ys ≡ true
later n y zs ys r inside j h =
    let above = has_above n y zs j r h in
    elim (or_cases (eqb y j) (has j ys) (inside j h)) [
      | inl e ↦ let at = eqb-true y j e in absurd (omega arith)
      | inr e ↦ e
    ]

-- a set whose members are all in another is no longer
no_longer : (n low : ℕ) (xs ys : List ℕ) → Rising n low xs → Rising n low ys → ((j : ℕ) → has j xs ≡ true → has j ys ≡ true) → length xs ≤ length ys
no_longer n low [] ys rx ry inside = omega arith
no_longer n low (x ∷ xs) [] rx ry inside = absurd (both_ways false refl (inside x (has_first x xs)))
no_longer n low (x ∷ xs) (y ∷ ys) rx ry inside =
    elim (or_cases (eqb y x) (has x ys) (inside x (has_first x xs))) [
      | inl e ↦
          let rest : Rising n y xs = rw (eqb-true y x e) rx.2 in
          let shorter = no_longer n y xs ys rest ry.2 (later n y xs ys rest (λ j h. inside j (or_right (eqb x j) (has j xs) h))) in
          omega arith
      | inr e ↦
          let above = has_above n y ys x ry.2 e in
          let shorter = no_longer n y (x ∷ xs) ys (above.0, rx.1, rx.2) ry.2 (later n y (x ∷ xs) ys (above.0, rx.1, rx.2) inside) in
          omega arith
    ]

module _ (s : Scheme) (own : Inspection) (part : Bytes) (sealed : List Bytes) (h : Established s own part sealed) (cs : List Call) where
  -- the changed blocks are the only set of at most d blocks that touches exactly the failing rows
  pub failing_fix : ((i : ℕ) → 1 ≤ i → i ≤ s.family.rows → NotAClash s sealed (row i) (after_all sealed cs))
      → (a : List ℕ) → Rising s.family.blocks 0 a → length a ≤ s.family.strength
      → ((i : ℕ) → 1 ≤ i → i ≤ s.family.rows → touches s.family.holds a i ≡ not (passes s part (after_all sealed cs) i)) → a ≡ changed s own part sealed cs
  failing_fix clear a set few t =
      let f = s.family in
      let all = changed s own part sealed cs in
      let all_set = changed_set s own part sealed h cs in
      let alike : (i : ℕ) → 1 ≤ i → i ≤ f.rows → touches f.holds all i ≡ touches f.holds a i =
      λ i p q. sym (row_fails s own part sealed h cs i p q (clear i p q)) ∙ sym (t i p q) in
      let short = no_longer f.blocks 0 all a all_set set (member f.blocks f.rows f.strength f.holds h.lawful.covers all a all_set set few alike) in
      tells_apart f.blocks f.rows f.strength f.holds h.lawful.covers a all set all_set few (omega arith) (λ i p q. sym (alike i p q))
