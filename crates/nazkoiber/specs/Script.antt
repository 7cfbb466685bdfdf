-- What the lines of a script say. Assumes nothing.
use Rattle.std.specs.Prelude.{ℕ, [], ◌∷◌, Some, None, vec_items, codes, Option}
use Rattle.std.specs.Option.{option_map}
use Rattle.scripts.specs.Words.{Bytes, alone, entry_at, number_of}
use Rattle.scripts.specs.Hex.{hex_bytes}
use Rattle.scripts.specs.Reading.{next_as, last_as}
use Rattle.told.specs.Algorithms.{algorithm_of}
use Rattle.told.specs.Names.{count_of, family_named}
use Rattle.told.specs.declared.algorithm.Algorithm.{Algorithm}
use Rattle.told.specs.declared.name.FamilyName.{FamilyName}
use Rattle.nazkoiber.specs.declared.call.Call.{Call}
use Rattle.nazkoiber.specs.declared.call.Call.TheVariants as calls
use Rattle.keyfiles.specs.declared.words.KeyWords.{KeyWords}
use Rattle.keyfiles.specs.Words.{key_told}
use Rattle.nazkoiber.specs.declared.call.Verb.{Verb}
use Rattle.nazkoiber.specs.declared.call.Verb.TheVariants as verbs

-- a call, with the values of its words
pub data Told : Type 0 where
  clear : Told
  cut : Bytes → Told
  add : Bytes → Told
  rewrite : ℕ → Bytes → Told
  show : ℕ → Told
  sheet : Told
  digest : Algorithm → Told
  family : FamilyName → Told
  choose : ℕ → ℕ → Told
  rows : ℕ → Told
  key : KeyWords → Told
  draw : Told
  burn : Told
  seal : ℕ → Told
  part : Told
  set_part : Bytes → Told
  accept : Told
  check : ℕ → Told
  vouch : ℕ → Bytes → Told
  excerpt : ℕ → ℕ → ℕ → Told
  confirm : ℕ → ℕ → Bytes → Bytes → Told
  pack : ℕ → Told
  unpack : Bytes → Told

abbrev pub told : Call → Told
told calls.Clear = clear
told (calls.Cut text) = cut (vec_items text)
told (calls.Add bytes) = add (vec_items bytes)
told (calls.Rewrite number bytes) = rewrite number.0 (vec_items bytes)
told (calls.Show number) = show number.0
told calls.Sheet = sheet
told (calls.Digest algorithm) = digest algorithm
told (calls.Family name) = family name
told (calls.Choose n d) = choose n d
told (calls.Rows block) = rows block.0
told (calls.Key words) = key words
told calls.Draw = draw
told calls.Burn = burn
told (calls.Seal room) = seal room
told calls.Part = part
told (calls.SetPart bytes) = set_part (vec_items bytes)
told calls.Accept = accept
told (calls.Check room) = check room
told (calls.Vouch block bytes) = vouch block.0 (vec_items bytes)
told (calls.Excerpt block row room) = excerpt block.0 row.0 room
told (calls.Confirm block row bytes others) = confirm block.0 row.0 (vec_items bytes) (vec_items others)
told (calls.Pack room) = pack room
told (calls.Unpack file) = unpack (vec_items file)

-- the first word of each call
abbrev pub verb_of : Bytes → Option Verb
verb_of =
    entry_at
    ((codes "check", verbs.Check)
    ∷ ((codes "clear", verbs.Clear)
    ∷ ((codes "cut", verbs.Cut)
    ∷ ((codes "add", verbs.Add)
    ∷ ((codes "rewrite", verbs.Rewrite)
    ∷ ((codes "show", verbs.Show)
    ∷ ((codes "sheet", verbs.Sheet)
    ∷ ((codes "digest", verbs.Digest)
    ∷ ((codes "family", verbs.Family)
    ∷ ((codes "choose", verbs.Choose)
    ∷ ((codes "rows", verbs.Rows)
    ∷ ((codes "key", verbs.Key)
    ∷ ((codes "draw", verbs.Draw)
    ∷ ((codes "burn", verbs.Burn)
    ∷ ((codes "seal", verbs.Seal)
    ∷ ((codes "part", verbs.Part)
    ∷ ((codes "accept", verbs.Accept)
    ∷ ((codes "vouch", verbs.Vouch) ∷ ((codes "excerpt", verbs.Excerpt) ∷ ((codes "confirm", verbs.Confirm) ∷ ((codes "pack", verbs.Pack) ∷ ((codes "unpack", verbs.Unpack) ∷ []))))))))))))))))))))))

-- the room that a last word names, of at most so much; where there is none, the usual one
abbrev pub room_in : ℕ → ℕ → Option Bytes → Option ℕ
room_in usual most None = Some usual
room_in usual most (Some word) = number_of word most

-- so big that every sheet can be sealed, checked, excerpted and packed
abbrev pub seal_room : ℕ
seal_room = 82001

abbrev pub check_room : ℕ
check_room = 512

abbrev pub excerpt_room : ℕ
excerpt_room = 131070

abbrev pub file_room : ℕ
file_room = 262144

-- the most that a line can ask for: of a check, and of the others
abbrev pub max_places : ℕ
max_places = 65535

abbrev pub max_room : ℕ
max_room = 1048576

-- the present seal part, or the bytes of another
abbrev pub part_told : Option Bytes → Option Told
part_told None = Some part
part_told (Some word) = option_map set_part (hex_bytes word)

-- the call of a first word, with what stands behind the space after it
abbrev pub told_by : Verb → Option Bytes → Option Told
told_by verbs.Clear rest = alone clear rest
told_by verbs.Cut rest = last_as hex_bytes cut rest
told_by verbs.Add rest = last_as hex_bytes add rest
told_by verbs.Rewrite rest = next_as count_of (λ j. last_as hex_bytes (rewrite j)) rest
told_by verbs.Show rest = last_as count_of show rest
told_by verbs.Sheet rest = alone sheet rest
told_by verbs.Digest rest = last_as algorithm_of digest rest
told_by verbs.Family rest = option_map family (family_named rest)
told_by verbs.Choose rest = next_as count_of (λ n. last_as count_of (choose n)) rest
told_by verbs.Rows rest = last_as count_of rows rest
told_by verbs.Key rest = option_map key (key_told rest)
told_by verbs.Draw rest = alone draw rest
told_by verbs.Burn rest = alone burn rest
told_by verbs.Seal rest = option_map seal (room_in seal_room max_room rest)
told_by verbs.Part rest = part_told rest
told_by verbs.Accept rest = alone accept rest
told_by verbs.Check rest = option_map check (room_in check_room max_places rest)
told_by verbs.Vouch rest = next_as count_of (λ j. last_as hex_bytes (vouch j)) rest
told_by verbs.Excerpt rest = next_as count_of (λ j. next_as count_of (λ i behind. option_map (excerpt j i) (room_in excerpt_room max_room behind))) rest
told_by verbs.Confirm rest = next_as count_of (λ j. next_as count_of (λ i. next_as hex_bytes (λ v. last_as hex_bytes (confirm j i v)))) rest
told_by verbs.Pack rest = option_map pack (room_in file_room max_room rest)
told_by verbs.Unpack rest = last_as hex_bytes unpack rest

-- the call that a line says, if it says one; a first word that is in no table says nothing
unfoldable pub line_told : Bytes → Option Told
line_told line = next_as verb_of told_by (Some line)
