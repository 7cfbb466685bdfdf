-- Worked cases; the seals are under a small digest that sees its whole input. Assumes nothing.
use Rattle.std.specs.Prelude.{◌≡◌, ℕ, zero, suc, ◌+◌, ◌*◌, ◌/◌, ◌%◌, ◌<◌, true, not, List, [], ◌∷◌, ◌++◌, length, take, map, Ok, Err, Result}
use Rattle.std.specs.List.{AllByRecursion, flat_map}
use Rattle.answers.specs.declared.Refusal.{Refusal}
use Rattle.answers.specs.Refusals.{number_of, values_of}
use Rattle.digests.specs.Strings.{Bytes}
use Rattle.families.specs.Numbers.{numbers, keep_where}
use Rattle.families.specs.Family.{touches}
use Rattle.families.specs.Shape.{Shape}
use Rattle.families.specs.Single.{single_holds}
use Rattle.families.specs.Halves.{halves_shape}
use Rattle.families.specs.Plane.{plane_shape}
use Rattle.families.specs.Choice.{product_of, numbered_shape, choose_answer}
use Rattle.seals.specs.Images.{framed, row_image, whole_image}
use Rattle.seals.specs.Scheme.{Scheme, Inspection, scheme, inspection}
use Rattle.seals.specs.Part.{seal_part}
use Rattle.seals.specs.Calls.{passes, suspects}
use Rattle.seals.specs.Law.{Call, Answer, after_all, events, NoRewrite, RefusesAs, rows_of, Image, image_of, compares, changed, changed_beside, unclear, reply, Clear, Room, Promised}
use Rattle.seals.specs.Law.Call.{rewrite, accept, check, vouch, excerpt, confirm}
use Rattle.seals.specs.Law.Image.{whole, row}
use Rattle.seals.specs.Law.Done.{named, rewritten, accepted, vouched, excerpted, confirmed}

-- kind, q and k of a family, or the number of a refusal
abbrev pub told : Result Shape Refusal → List ℕ
told (Ok f) = f.kind ∷ (f.q ∷ (f.k ∷ []))
told (Err e) = number_of e ∷ []

-- the whole string as one number in base 257, its bytes as the digits 1 to 256, first byte lowest
unfoldable pub as_number : Bytes → ℕ
as_number [] = 0
as_number (b ∷ bs) = b + 1 + 257 * as_number bs

-- the lowest digits of a number in base 256, so many of them, lowest first
unfoldable pub lowest_digits : ℕ → ℕ → Bytes
lowest_digits x zero = []
lowest_digits x (suc count) = x % 256 ∷ lowest_digits (x / 256) count

-- the 32 lowest digits of that number: 32 bytes
unfoldable pub small_digest : Bytes → Bytes
small_digest b = lowest_digits (as_number b) 32

-- the plane of twelve blocks
unfoldable pub plane : Scheme
plane = scheme small_digest 1 (plane_shape 12)

-- an inspector that says yes
unfoldable pub yes : Inspection
yes = inspection 1 (λ _ _ _. true)

-- blocks of one byte each
unfoldable pub one_byte_blocks : List ℕ → List Bytes
one_byte_blocks [] = []
one_byte_blocks (x ∷ xs) = (x ∷ []) ∷ one_byte_blocks xs

-- each block is its own number
unfoldable pub plane_sheet : List Bytes
plane_sheet = one_byte_blocks (numbers 1 12)

-- its seal part, under number 70000, by a sealer of kind 1 with an empty signature
unfoldable pub plane_part : Bytes
plane_part = seal_part plane 1 70000 plane_sheet []

-- a rewrite of each of some blocks to the byte 99
unfoldable pub spoil : List ℕ → List Call
spoil [] = []
spoil (j ∷ js) = rewrite j (99 ∷ []) ∷ spoil js

-- what a call answers then
unfoldable pub asked : List ℕ → Call → Answer
asked js c = reply plane yes plane_part plane_sheet (spoil js) c

-- what a check answers then
abbrev pub checked : List ℕ → Answer
checked js = asked js (check 2)

-- the rows that fail then
unfoldable pub failing : List ℕ → List ℕ
failing js = keep_where (λ i. not (passes plane plane_part (after_all plane_sheet (spoil js)) i)) (numbers 1 9)

-- the sheet with 99 as block 4
abbrev pub four_spoiled : List Bytes
four_spoiled = one_byte_blocks (1 ∷ 2 ∷ 3 ∷ 99 ∷ 5 ∷ 6 ∷ 7 ∷ 8 ∷ 9 ∷ 10 ∷ 11 ∷ 12 ∷ [])

-- 0 for the image of the whole, i for that of row i
abbrev pub image_number : Image → ℕ
image_number whole = 0
image_number (row i) = i

-- which images a call compares then
unfoldable pub images_compared : List ℕ → Call → List ℕ
images_compared js c = map (λ (x : Image × List Bytes). image_number x.0) (compares plane plane_part (after_all plane_sheet (spoil js)) c)

-- and their bytes, one image behind another
unfoldable pub bytes_compared : List ℕ → Call → Bytes
bytes_compared js c = flat_map (λ (x : Image × List Bytes). image_of plane x.0 x.1) (compares plane plane_part (after_all plane_sheet (spoil js)) c)

-- the excerpt of block 8 and row 2: blocks 1, 5 and 11, framed
unfoldable pub beside_eight : Bytes
beside_eight = framed 1 (1 ∷ []) ++ (framed 5 (5 ∷ []) ++ framed 11 (11 ∷ []))

-- the blocks that an answer names, or the number and values of its refusal
abbrev pub said : Answer → List ℕ
said (Ok (named js)) = js
said (Ok (rewritten n)) = n ∷ []
said (Ok (accepted b)) = b
said (Ok (vouched i n)) = i ∷ (n ∷ [])
said (Ok (excerpted e)) = e
said (Ok confirmed) = []
said (Err e) = number_of e ∷ values_of e

-- what is computed, and what it is
unfoldable pub cases : List (List ℕ × List ℕ)
cases =
    -- plane, blocks 4 and 8 changed: the rows that hold one of them, those that fail, and the named blocks
    (keep_where (touches (plane_shape 12).holds (4 ∷ 8 ∷ [])) (numbers 1 9), 1 ∷ 2 ∷ 4 ∷ 6 ∷ 7 ∷ [])
    ∷ (failing (4 ∷ 8 ∷ []), 1 ∷ 2 ∷ 4 ∷ 6 ∷ 7 ∷ [])
    ∷ (said (checked (4 ∷ 8 ∷ [])), 4 ∷ 8 ∷ [])
    -- plane, blocks 1, 4 and 7 changed: the suspects, and the refusal with their count
    ∷ (suspects plane plane_part (after_all plane_sheet (spoil (1 ∷ 4 ∷ 7 ∷ []))), 1 ∷ 4 ∷ 7 ∷ 11 ∷ 12 ∷ [])
    ∷ (said (checked (1 ∷ 4 ∷ 7 ∷ [])), 28 ∷ 5 ∷ [])
    -- then the unclear blocks, and the changed ones beside block 4
    ∷ (unclear plane yes plane_part plane_sheet (spoil (1 ∷ 4 ∷ 7 ∷ [])), 1 ∷ 4 ∷ 7 ∷ 11 ∷ 12 ∷ [])
    ∷ (changed_beside plane yes plane_part plane_sheet 4 (spoil (1 ∷ 4 ∷ 7 ∷ [])), 1 ∷ 7 ∷ [])
    -- plane, unchanged
    ∷ (said (checked []), [])
    -- plane, what a check compares: the whole alone where nothing is changed, every row as well where block 4 is, and nothing without room
    ∷ (images_compared [] (check 2), 0 ∷ [])
    ∷ (images_compared (4 ∷ []) (check 2), 0 ∷ 1 ∷ 2 ∷ 3 ∷ 4 ∷ 5 ∷ 6 ∷ 7 ∷ 8 ∷ 9 ∷ [])
    ∷ (images_compared (4 ∷ []) (check 1), [])
    -- plane, block 4 changed, what a vouch compares: up to the first row that passes, all rows where none does, and nothing for block 13
    ∷ (images_compared (4 ∷ []) (vouch 8 (8 ∷ [])), 2 ∷ [])
    ∷ (images_compared (4 ∷ []) (vouch 4 (4 ∷ [])), 1 ∷ [])
    ∷ (images_compared (4 ∷ []) (vouch 4 (98 ∷ [])), 1 ∷ 4 ∷ 7 ∷ [])
    ∷ (images_compared (4 ∷ []) (vouch 13 (8 ∷ [])), [])
    -- and a confirm: the one row, and nothing with an empty excerpt
    ∷ (images_compared (4 ∷ []) (confirm 8 2 (8 ∷ []) beside_eight), 2 ∷ [])
    ∷ (images_compared (4 ∷ []) (confirm 8 2 (8 ∷ []) []), [])
    -- and the calls of the other kinds: nothing
    ∷ (flat_map (images_compared (4 ∷ [])) (rewrite 4 (98 ∷ []) ∷ (accept ∷ (excerpt 8 2 15 ∷ []))), [])
    -- the images that they take: of the sheet as it is, of row 1 with block 4 as offered, and of row 2 put together from the offered byte 98 and the excerpt
    ∷ (bytes_compared (4 ∷ []) (check 2), whole_image four_spoiled ++ flat_map (λ i. row_image (plane_shape 12).holds i four_spoiled) (numbers 1 9))
    ∷ (
      bytes_compared (4 ∷ []) (vouch 4 (4 ∷ [])),
      1 ∷ 0 ∷ 1 ∷ (framed 1 (1 ∷ []) ++ (framed 4 (4 ∷ []) ++ (framed 7 (7 ∷ []) ++ framed 10 (10 ∷ [])))),
    )
    ∷ (
      bytes_compared (4 ∷ []) (confirm 8 2 (98 ∷ []) beside_eight),
      1 ∷ 0 ∷ 2 ∷ (framed 1 (1 ∷ []) ++ (framed 5 (5 ∷ []) ++ (framed 8 (98 ∷ []) ++ framed 11 (11 ∷ [])))),
    )
    -- plane, the rows of blocks 1 to 12
    ∷ (
      flat_map (rows_of (plane_shape 12)) (numbers 1 12),
      1 ∷ 2 ∷ 3 ∷ 4 ∷ 5 ∷ 6 ∷ 7 ∷ 8 ∷ 9 ∷ 1 ∷ 4 ∷ 7 ∷ 2 ∷ 5 ∷ 8 ∷ 3 ∷ 6 ∷ 9
          ∷ 1 ∷ 5 ∷ 9 ∷ 2 ∷ 6 ∷ 7 ∷ 3 ∷ 4 ∷ 8 ∷ 1 ∷ 6 ∷ 8 ∷ 2 ∷ 4 ∷ 9 ∷ 3 ∷ 5 ∷ 7 ∷ [],
    )
    -- halves: how many rows, and the rows of a block
    ∷ ((halves_shape 6).rows ∷ [], 4 ∷ [])
    ∷ (rows_of (halves_shape 6) 5, 2 ∷ 4 ∷ [])
    ∷ ((halves_shape 7).rows ∷ [], 5 ∷ [])
    ∷ ((halves_shape 1).rows ∷ [], 2 ∷ [])
    ∷ (rows_of (halves_shape 1) 1, 1 ∷ [])
    -- polynomial, q = 5, k = 3
    ∷ (rows_of (numbered_shape 5 3 125) 9, 4 ∷ 10 ∷ 11 ∷ 17 ∷ 23 ∷ [])
    ∷ (rows_of (numbered_shape 5 3 125) 26, 1 ∷ 7 ∷ 15 ∷ 20 ∷ 22 ∷ [])
    -- products in the fields of 8 and 16
    ∷ (product_of 8 2 4 ∷ product_of 8 7 7 ∷ product_of 16 2 8 ∷ [], 3 ∷ 3 ∷ 3 ∷ [])
    -- choose
    ∷ (told (choose_answer 125 2), 3 ∷ 5 ∷ 3 ∷ [])
    ∷ (told (choose_answer 126 2), 3 ∷ 7 ∷ 4 ∷ [])
    ∷ (told (choose_answer 10 8), 6 ∷ [])
    -- single, row 1, block 1 is 41 42
    ∷ (row_image (single_holds 1) 1 ((0x41 ∷ 0x42 ∷ []) ∷ []), 0x01 ∷ 0x00 ∷ 0x01 ∷ 0x00 ∷ 0x01 ∷ 0x00 ∷ 0x02 ∷ 0x41 ∷ 0x42 ∷ [])
    -- blocks 41 and empty
    ∷ (
      whole_image ((0x41 ∷ []) ∷ [] ∷ []),
      0x02 ∷ 0x00 ∷ 0x02 ∷ 0x00 ∷ 0x01 ∷ 0x00 ∷ 0x01 ∷ 0x41 ∷ 0x00 ∷ 0x02 ∷ 0x00 ∷ 0x00 ∷ [],
    )
    -- the first bytes of the plane's seal part: n, kinds, d, t, seal number 70000
    ∷ (
      take 16 plane_part,
      0x00 ∷ 0x0C ∷ 0x04 ∷ 0x00 ∷ 0x00 ∷ 0x01 ∷ 0x01 ∷ 0x00 ∷ 0x00 ∷ 0x02 ∷ 0x00 ∷ 0x09 ∷ 0x00 ∷ 0x01 ∷ 0x11 ∷ 0x70 ∷ [],
    )
    ∷ []

-- each is computed to what it is to be
abbrev pub WorkedCases : Type 0
WorkedCases = AllByRecursion {X = List ℕ × List ℕ} (λ c. c.0 ≡ c.1) cases

-- block 4 rewritten to the byte 99, and back to its sealed byte
abbrev pub there_and_back : List Call
there_and_back = rewrite 4 (99 ∷ []) ∷ (rewrite 4 (4 ∷ []) ∷ [])

-- What the law assumes can be met: a seal part keeps the promises, a check that meets no clash names a changed block, and vouch, excerpt, confirm and a refused check go the same way.
pub record NotEmpty : Type 0 where
  pub promised : Promised plane yes plane_part plane_sheet
  pub has_room : Room plane yes plane_part plane_sheet 2
  pub clear : Clear plane yes plane_part plane_sheet (spoil (4 ∷ [])) (check 2)
  pub one_changed : changed plane yes plane_part plane_sheet (spoil (4 ∷ [])) ≡ 4 ∷ []
  pub one_named : checked (4 ∷ []) ≡ Ok (named (4 ∷ []))
  -- beside the changed block 4, block 8 is vouched for, excerpted and confirmed
  pub vouch_clear : Clear plane yes plane_part plane_sheet (spoil (4 ∷ [])) (vouch 8 (8 ∷ []))
  pub one_vouched : asked (4 ∷ []) (vouch 8 (8 ∷ [])) ≡ Ok (vouched 2 15)
  pub one_excerpted : asked (4 ∷ []) (excerpt 8 2 15) ≡ Ok (excerpted beside_eight)
  pub confirm_clear : Clear plane yes plane_part plane_sheet (spoil (4 ∷ [])) (confirm 8 2 (8 ∷ []) beside_eight)
  pub one_confirmed : asked (4 ∷ []) (confirm 8 2 (8 ∷ []) beside_eight) ≡ Ok confirmed
  -- with three blocks changed, a check that meets no clash is refused, with the count of suspects and no other
  pub three_clear : Clear plane yes plane_part plane_sheet (spoil (1 ∷ 4 ∷ 7 ∷ [])) (check 2)
  pub three_refused : RefusesAs 28 (5 ∷ []) (checked (1 ∷ 4 ∷ 7 ∷ []))
  pub not_with_four : RefusesAs 28 (4 ∷ []) (checked (1 ∷ 4 ∷ 7 ∷ [])) → ⊥
  -- and block 4 is vouched for with its sealed byte: row 1 holds block 7 too, row 4 no other changed block
  pub around_clear : Clear plane yes plane_part plane_sheet (spoil (1 ∷ 4 ∷ 7 ∷ [])) (vouch 4 (4 ∷ []))
  pub around_vouched : asked (1 ∷ 4 ∷ 7 ∷ []) (vouch 4 (4 ∷ [])) ≡ Ok (vouched 4 15)
  -- a refused rewrite changes nothing, and a block that has its sealed byte again is no longer changed
  pub refused_changed : changed plane yes plane_part plane_sheet (rewrite 4 (99 ∷ []) ∷ (rewrite 13 (99 ∷ []) ∷ [])) ≡ 4 ∷ []
  pub back_changed : changed plane yes plane_part plane_sheet there_and_back ≡ []
  pub back_named : reply plane yes plane_part plane_sheet there_and_back (check 2) ≡ Ok (named [])
  -- no rewrite succeeds in a run of a refused rewrite and a check, and one does where block 4 is changed
  pub quiet : NoRewrite (events plane yes plane_part plane_sheet (rewrite 13 (99 ∷ []) ∷ (check 2 ∷ [])))
  pub not_quiet : NoRewrite (events plane yes plane_part plane_sheet (spoil (4 ∷ []))) → ⊥
  -- the digest gives 32 bytes
  pub digest_bytes : (b : Bytes) → (length (small_digest b) ≡ 32) × AllByRecursion (λ x. x < 256) (small_digest b)
