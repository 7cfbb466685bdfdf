-- What a confirm compares.
use Rattle.std.specs.Prelude.{◌≡◌, ℕ, ◌≤◌, true, ◌==◌, slice_index}
use Rattle.std.proofs.Common.{ap, arith}
use Rattle.std.proofs.lemmas.Bool.{and_parts, eqb-true}
use Rattle.digests.specs.Strings.{Bytes, same}
use Rattle.families.specs.Shape.{Shape, Lawful}
use Rattle.sheets.specs.Calls.{with_block}
use Rattle.seals.specs.Scheme.{Scheme, scheme}
use Rattle.seals.specs.Part.{part_blocks, part_strength, part_rows, row_digest}
use Rattle.seals.specs.Calls.{same_family, same_scheme, passes, rest_blocks}
use Rattle.seals.specs.Excerpts.{image_around, OwnPlace}

-- the row passes with the bytes offered for a block exactly if the image with them at that place has the digest that was sealed
pub passes_around : (digest : Bytes → Bytes) (kind : ℕ) (f : Shape) (part : Bytes) (j i : ℕ) (e v : Bytes) (p : ℕ) → OwnPlace f j i e p
    → passes (scheme digest kind f) part (with_block (rest_blocks f j i e) j v) i ≡ same (digest (image_around i j v e p)) (row_digest part i)
unfolding passes
passes_around digest kind f part j i e v p own = ap (λ k. same (digest k) (row_digest part i)) (own.image v)

-- a row that holds a block is one of the seal's
pub held_row : (s : Scheme) (part : Bytes) (i j : ℕ) → Lawful s.family → same_scheme s part ≡ true → s.family.holds i j ≡ true → (1 ≤ i) × (i ≤ part_rows part)
unfolding same_scheme same_family
held_row s part i j lawful scheme held =
    let inside = lawful.inside i j held in
    let e0 = (and_parts (same_family s.family part) _ scheme).0 in
    let e1 = (and_parts (part_blocks part == s.family.blocks) _ e0).1 in
    let e2 = (and_parts (slice_index part 2 == s.family.kind) _ e1).1 in
    let e3 = (and_parts (slice_index part 3 == s.family.q) _ e2).1 in
    let e4 = (and_parts (slice_index part 4 == s.family.k) _ e3).1 in
    let e5 = (and_parts (part_strength part == s.family.strength) _ e4).1 in
    (inside.0, omega (arith, inside.1, eqb-true (part_rows part) s.family.rows e5))
