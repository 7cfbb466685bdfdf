-- What a seal promises of every list of calls that follows it. Assumes nothing.
use Rattle.std.specs.Prelude.{◌≡◌, ℕ, ◌<◌, ◌≤◌, min, Bool, true, false, cond, not, ◌&&◌, ◌↔◌, List, [], ◌∷◌, ◌++◌, length, Ok, Err, Result, ◌==◌, ◌≢◌}
use Rattle.answers.specs.declared.Refusal.{Refusal}
use Rattle.answers.specs.Refusals.{number_of, values_of}
use Rattle.digests.specs.Strings.{Bytes, same}
use Rattle.families.specs.Family.{Rising, touches}
use Rattle.families.specs.Numbers.{numbers, keep_where, any_of}
use Rattle.families.specs.Shape.{Shape}
use Rattle.sheets.specs.Calls.{block_at, with_block, rewrite_answer}
use Rattle.seals.specs.Images.{row_image, whole_image, row_rest}
use Rattle.seals.specs.Scheme.{Scheme, Inspection}
use Rattle.seals.specs.Calls.{held_back, accept_answer, check_answer, vouch_answer, excerpt_answer, confirm_answer, check_before, vouch_before, confirm_before, rest_blocks, is_excerpt, all_short, agrees, passes, suspects}

-- a call, with what it is given besides the sheet and the seal part
pub data Call : Type 0 where
  -- block number, new bytes
  rewrite : ℕ → Bytes → Call
  accept : Call
  -- places in the list
  check : ℕ → Call
  -- block number, offered bytes
  vouch : ℕ → Bytes → Call
  -- block number, row number, places in the buffer
  excerpt : ℕ → ℕ → ℕ → Call
  -- block number, row number, offered bytes, excerpt
  confirm : ℕ → ℕ → Bytes → Bytes → Call

-- what a call that succeeds answers
pub data Done : Type 0 where
  rewritten : ℕ → Done
  -- the seal part, now accepted
  accepted : Bytes → Done
  named : List ℕ → Done
  vouched : ℕ → ℕ → Done
  excerpted : Bytes → Done
  confirmed : Done

-- what a call answers: what it has done, or why it is refused
abbrev pub Answer : Type 0
Answer = Result Done Refusal

-- an answer, where f says what is done by a call that succeeds
abbrev pub done_as : {A : Type 0} → (A → Done) → Result A Refusal → Answer
done_as f (Ok a) = Ok (f a)
done_as f (Err e) = Err e

-- what a call answers on the sheet bs: for each kind of call the definition that its contract names
unfoldable pub answer : Scheme → Inspection → Bytes → List Bytes → Call → Answer
answer s own part bs (rewrite j b) = done_as rewritten (rewrite_answer bs j b)
answer s own part bs accept = done_as accepted (accept_answer own part)
answer s own part bs (check room) = done_as named (check_answer s part bs room)
answer s own part bs (vouch j v) = done_as (λ r. vouched r.0 r.1) (vouch_answer s part bs j v)
answer s own part bs (excerpt j i room) = done_as excerpted (excerpt_answer s.family part bs j i room)
answer s own part bs (confirm j i v e) = done_as (λ _. confirmed) (confirm_answer s part j i v e)

-- the sheet after a call: only a rewrite that succeeds moves it
unfoldable pub after : List Bytes → Call → List Bytes
after bs (rewrite j b) = elim (rewrite_answer bs j b) [ Ok n ↦ with_block bs j b | Err e ↦ bs ]
after bs accept = bs
after bs (check room) = bs
after bs (vouch j v) = bs
after bs (excerpt j i room) = bs
after bs (confirm j i v e) = bs

-- the sheet after a list of calls, one after another
unfoldable pub after_all : List Bytes → List Call → List Bytes
after_all bs [] = bs
after_all bs (c ∷ cs) = after_all (after bs c) cs

-- one call and what it answered
abbrev pub Event : Type 0
Event = Call × Answer

-- the history of a list of calls, from the sheet bs
unfoldable pub events : Scheme → Inspection → Bytes → List Bytes → List Call → List Event
events s own part bs [] = []
events s own part bs (c ∷ cs) = (c, answer s own part bs c) ∷ events s own part (after bs c) cs

-- the bytes of block j after a call and its answer, where they were b before
unfoldable pub rewritten_to : Call → Answer → ℕ → Bytes → Bytes
rewritten_to (rewrite m v) (Ok a) j b = cond (m == j) v b
rewritten_to (rewrite m v) (Err e) j b = b
rewritten_to accept a j b = b
rewritten_to (check room) a j b = b
rewritten_to (vouch m v) a j b = b
rewritten_to (excerpt m i room) a j b = b
rewritten_to (confirm m i v x) a j b = b

-- the bytes of block j's last successful rewrite, or b where there is none
unfoldable pub standing : List Event → ℕ → Bytes → Bytes
standing [] j b = b
standing (e ∷ es) j b = standing es j (rewritten_to e.0 e.1 j b)

-- no rewrite has succeeded
abbrev pub NoRewrite : List Event → Type 0
NoRewrite [] = Unit {0}
NoRewrite (e ∷ es) = ((j n : ℕ) (v : Bytes) → e ≢ (rewrite j v, Ok (rewritten n))) × NoRewrite es

-- an answer that is no refusal
abbrev pub Succeeds : Answer → Type 0
Succeeds (Ok a) = Unit {0}
Succeeds (Err e) = ⊥

-- refused as this number, with these values
abbrev pub RefusesAs : ℕ → List ℕ → Answer → Type 0
RefusesAs n vs (Ok a) = ⊥
RefusesAs n vs (Err e) = (number_of e ≡ n) × (values_of e ≡ vs)

-- up to the first number that p says yes to, that one with them
unfoldable pub up_to_first : (ℕ → Bool) → List ℕ → List ℕ
up_to_first p [] = []
up_to_first p (x ∷ xs) = x ∷ elim (p x) [ true ↦ [] | false ↦ up_to_first p xs ]

-- the rows of a family that hold block j, rising
unfoldable pub rows_of : Shape → ℕ → List ℕ
rows_of f j = keep_where (λ i. f.holds i j) (numbers 1 f.rows)

-- which of the sealed images: that of the whole, or that of a row
pub data Image : Type 0 where
  whole : Image
  row : ℕ → Image

-- the image of that name, made of the blocks bs
unfoldable pub image_of : Scheme → Image → List Bytes → Bytes
image_of s whole bs = whole_image bs
image_of s (row i) bs = row_image s.family.holds i bs

-- the rows of a list, each with the sheet whose image is compared
abbrev pub rows_of_sheet : List Bytes → List ℕ → List (Image × List Bytes)
rows_of_sheet bs [] = []
rows_of_sheet bs (i ∷ is) = (row i, bs) ∷ rows_of_sheet bs is

-- What a call compares with the sealed images: which of them, and the sheet whose image it takes.
-- A call that is refused before it comes to compare has compared nothing.
unfoldable pub compares : Scheme → Bytes → List Bytes → Call → List (Image × List Bytes)
compares s part bs (rewrite j b) = []
compares s part bs accept = []
compares s part bs (check room) =
    elim (held_back (check_before s part bs room)) [
      | true ↦ []
      | false ↦ (whole, bs) ∷ elim (agrees s part bs) [ true ↦ [] | false ↦ rows_of_sheet bs (numbers 1 s.family.rows) ]
    ]
compares s part bs (vouch j v) =
    elim (held_back (vouch_before s part bs j v)) [
      | true ↦ []
      | false ↦ rows_of_sheet (with_block bs j v) (up_to_first (passes s part (with_block bs j v)) (rows_of s.family j))
    ]
compares s part bs (excerpt j i room) = []
compares s part bs (confirm j i v e) =
    elim (held_back (confirm_before s part j i v e)) [
      | true ↦ []
      | false ↦ (row i, with_block (rest_blocks s.family j i e) j v) ∷ []
    ]

-- a compared image that has the digest of the sealed one is the sealed one
abbrev pub NotAClash : Scheme → List Bytes → Image → List Bytes → Type 0
NotAClash s sealed i bs = s.digest (image_of s i bs) ≡ s.digest (image_of s i sealed) → image_of s i bs ≡ image_of s i sealed

-- none of what is compared is a clash
abbrev pub NoClash : Scheme → List Bytes → List (Image × List Bytes) → Type 0
NoClash s sealed [] = Unit {0}
NoClash s sealed (c ∷ cs) = NotAClash s sealed c.0 c.1 × NoClash s sealed cs

module _ (s : Scheme) (own : Inspection) (part : Bytes) (sealed : List Bytes) where
  -- the bytes of block j's last successful rewrite are not its sealed ones
  unfoldable pub is_changed : List Call → ℕ → Bool
  is_changed cs j = not (same (standing (events s own part sealed cs) j (block_at sealed j)) (block_at sealed j))

  -- the changed blocks after the calls, rising
  unfoldable pub changed : List Call → List ℕ
  changed cs = keep_where (is_changed cs) (numbers 1 s.family.blocks)

  -- the changed blocks that are not block j, rising
  unfoldable pub changed_beside : ℕ → List Call → List ℕ
  changed_beside j cs = keep_where (λ m. not (m == j)) (changed cs)

  -- block j lies in no row whose blocks are all unchanged
  unfoldable pub is_unclear : List Call → ℕ → Bool
  is_unclear cs j = not (any_of (λ i. s.family.holds i j && not (touches s.family.holds (changed cs) i)) (numbers 1 s.family.rows))

  -- the blocks each of whose rows holds a changed block, rising
  unfoldable pub unclear : List Call → List ℕ
  unclear cs = keep_where (is_unclear cs) (numbers 1 s.family.blocks)

  -- what a call answers after the calls cs
  abbrev pub reply : List Call → Call → Answer
  reply cs c = answer s own part (after_all sealed cs) c

  -- and that the call meets no clash
  abbrev pub Clear : List Call → Call → Type 0
  Clear cs c = NoClash s sealed (compares s part (after_all sealed cs) c)

  -- A check has room with this many places.
  abbrev pub Room : ℕ → Type 0
  Room room = min s.family.strength s.family.blocks ≤ room

  -- What a seal promises: each line holds after every list of calls. A line with Clear or NotAClash in it speaks of calls that meet no clash.
  pub record Promised : Type 0 where
    -- every accept succeeds
    pub accepts : (cs : List Call) → reply cs accept ≡ Ok (accepted part)
    -- no call is refused for another family, digest or block count
    pub never_other : (cs : List Call) (c : Call) (vs : List ℕ) → (RefusesAs 26 vs (reply cs c) → ⊥) × (RefusesAs 27 vs (reply cs c) → ⊥)
    -- a check with room names exactly the changed blocks, if they are at most d
    pub names : (cs : List Call) (room : ℕ) → Room room → Clear cs (check room)
        → length (changed cs) ≤ s.family.strength → reply cs (check room) ≡ Ok (named (changed cs))
    -- and if they are more, it refuses with the count of unclear blocks
    pub refuses : (cs : List Call) (room : ℕ) → Room room → Clear cs (check room)
        → s.family.strength < length (changed cs)
        → RefusesAs 28 (length (unclear cs) ∷ []) (reply cs (check room))
    -- a row whose present image is no clash fails exactly if it holds a changed block
    pub fails : (cs : List Call) (i : ℕ) → 1 ≤ i → i ≤ s.family.rows → NotAClash s sealed (row i) (after_all sealed cs)
        → not (passes s part (after_all sealed cs) i) ≡ touches s.family.holds (changed cs) i
    -- the failing rows fix the changed blocks: a set of at most d blocks that touches exactly them is the changed set
    pub finds : (cs : List Call) → ((i : ℕ) → 1 ≤ i → i ≤ s.family.rows → NotAClash s sealed (row i) (after_all sealed cs))
        → (a : List ℕ) → Rising s.family.blocks 0 a → length a ≤ s.family.strength
        → ((i : ℕ) → 1 ≤ i → i ≤ s.family.rows → touches s.family.holds a i ≡ not (passes s part (after_all sealed cs) i)) → a ≡ changed cs
    -- where a check with room meets no clash, every row fails exactly if it holds a changed block
    pub fails_in_check : (cs : List Call) (room : ℕ) → Room room → Clear cs (check room) → (i : ℕ) → 1 ≤ i → i ≤ s.family.rows
        → not (passes s part (after_all sealed cs) i) ≡ touches s.family.holds (changed cs) i
    -- and the suspects that the check counts are exactly the unclear blocks
    pub suspects_unclear : (cs : List Call) (room : ℕ) → Room room → Clear cs (check room) → suspects s part (after_all sealed cs) ≡ unclear cs
    -- no two different sets of at most d blocks touch the same rows
    pub tells_apart : (a b : List ℕ) → Rising s.family.blocks 0 a → Rising s.family.blocks 0 b
        → length a ≤ s.family.strength → length b ≤ s.family.strength → ((i : ℕ) → 1 ≤ i → i ≤ s.family.rows → touches s.family.holds a i ≡ touches s.family.holds b i) → a ≡ b
    -- while at most d other blocks are changed, a vouch succeeds exactly if the offered bytes are the sealed ones
    pub vouches : (cs : List Call) (j : ℕ) (v : Bytes) → 1 ≤ j → j ≤ s.family.blocks → Clear cs (vouch j v)
        → length (changed_beside j cs) ≤ s.family.strength → Succeeds (reply cs (vouch j v)) ↔ (v ≡ block_at sealed j)
    -- in every vouch that succeeds the offered bytes are the sealed ones
    pub vouched_is_sealed : (cs : List Call) (j : ℕ) (v : Bytes) → Clear cs (vouch j v)
        → Succeeds (reply cs (vouch j v)) → v ≡ block_at sealed j
    -- in every confirm that succeeds too, so has each other block of the row in the excerpt, and the excerpt is that of the sealed sheet
    pub confirmed_is_sealed : (cs : List Call) (j i : ℕ) (v e : Bytes) → Clear cs (confirm j i v e)
        → Succeeds (reply cs (confirm j i v e))
        → (v ≡ block_at sealed j)
        × ((m : ℕ) → 1 ≤ m → s.family.holds i m ≡ true → m ≢ j → block_at (rest_blocks s.family j i e) m ≡ block_at sealed m)
        × (e ≡ row_rest s.family.holds i j sealed)
    -- after a vouch and until a rewrite succeeds, an excerpt of its row into enough room has the answered length,
    -- and a confirm with that excerpt succeeds after whatever calls
    pub excerpt_follows : (cs : List Call) (j i n : ℕ) (v : Bytes) → reply cs (vouch j v) ≡ Ok (vouched i n)
        → (mid : List Call) → NoRewrite (events s own part (after_all sealed cs) mid) → (room : ℕ) → n ≤ room
        → (e : Bytes) × ((length e ≡ n) × (reply (cs ++ (vouch j v ∷ mid)) (excerpt j i room) ≡ Ok (excerpted e))
        × ((later : List Call) → reply (cs ++ (vouch j v ∷ (mid ++ (excerpt j i room ∷ later)))) (confirm j i v e) ≡ Ok confirmed))

  -- The history and the sheet agree after every list of calls, whatever the seal part.
  pub record HistoryIsTheSheet : Type 0 where
    -- the bytes of a block's last successful rewrite, or its sealed ones, are those that it has
    pub stands : (cs : List Call) (j : ℕ) → 1 ≤ j → block_at (after_all sealed cs) j ≡ standing (events s own part sealed cs) j (block_at sealed j)
    -- the changed blocks are those that do not have their sealed bytes
    pub differ : (cs : List Call) → changed cs ≡ keep_where (λ j. not (same (block_at (after_all sealed cs) j) (block_at sealed j))) (numbers 1 s.family.blocks)
    -- they are a set
    pub rising : (cs : List Call) → Rising s.family.blocks 0 (changed cs)
    -- where none is changed the sheet is the sealed one, and neither a check nor a vouch of sealed bytes meets a clash
    pub sealed_again : (cs : List Call) → length sealed ≤ s.family.blocks → changed cs ≡ [] → after_all sealed cs ≡ sealed
    pub check_of_sealed : (cs : List Call) (room : ℕ) → length sealed ≤ s.family.blocks → changed cs ≡ [] → Clear cs (check room)
    pub vouch_of_sealed : (cs : List Call) (j : ℕ) → length sealed ≤ s.family.blocks → changed cs ≡ [] → Clear cs (vouch j (block_at sealed j))

-- a string is an excerpt exactly if some blocks, each at most 38,912 bytes, have it as the frames of the row's others
abbrev pub ExcerptForm : Type 0
ExcerptForm =
    (f : Shape) (j i : ℕ) (e : Bytes)
    → (is_excerpt f j i e ≡ true) ↔ ((bs : List Bytes) × ((length bs ≡ f.blocks) × (all_short bs ≡ true) × (e ≡ row_rest f.holds i j bs)))
