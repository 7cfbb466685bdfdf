-- What each call answers, and the state after it. Assumes nothing.
use Rattle.std.specs.Prelude.{◌≡◌, ℕ, true, cond, List, [], ◌∷◌, ◌++◌, length, Some, None, is_some, Ok, Err, codes, decimal, Option, Result, String, string_bytes}
use Rattle.std.specs.declared.alloc.Global.{Global}
use Rattle.answers.specs.declared.Refusal.{Refusal}
use Rattle.answers.specs.Refusals.{shown_as, spaced}
use Rattle.desk.specs.Named.{scheme_by}
use Rattle.families.specs.Shape.{Shape}
use Rattle.families.specs.Choice.{choose_answer}
use Rattle.files.specs.File.{pack_answer, unpack_answer, blocks_of_file, seal_of}
use Rattle.keys.specs.Key.{draw_answer}
use Rattle.keyfiles.specs.Making.{Held, key_answer}
use Rattle.keyfiles.specs.Drawing.{drawn_from}
use Rattle.scripts.specs.Words.{Bytes, first_word}
use Rattle.scripts.specs.Hex.{hex_text}
use Rattle.scripts.specs.Lines.{silent, parts_behind}
use Rattle.seals.specs.Scheme.{inspection}
use Rattle.seals.specs.Part.{seal_number, signed_part}
use Rattle.seals.specs.Calls.{seal_answer, accept_answer, check_answer, vouch_answer, excerpt_answer, confirm_answer}
use Rattle.sheets.specs.Calls.{total_bytes, with_block, text_lines, cut_answer, add_answer, rewrite_answer, block_answer, after}
use Rattle.told.specs.Algorithms.{digest_number}
use Rattle.told.specs.Names.{name_answer}
use Rattle.told.specs.Texts.{family_text, rows_text, text_of}
use Rattle.nazkoiber.specs.declared.bench.Missing.{Missing}
use Rattle.nazkoiber.specs.declared.bench.Missing.TheVariants.{NotAccepted, NoPart, NoFamily, NoKey, HandFull, HandEmpty}
use Rattle.nazkoiber.specs.declared.bench.Stop.{Stop}
use Rattle.nazkoiber.specs.declared.bench.Stop.TheVariants.{Refused, Lacking, OutOfMemory}
use Rattle.nazkoiber.specs.Missed.{missing_text}
use Rattle.nazkoiber.specs.Script.{Told, clear, cut, add, rewrite, show, sheet, digest, family, choose, rows, key, draw, burn, seal, part, set_part, accept, check, vouch, excerpt, confirm, pack, unpack, line_told}
use Rattle.nazkoiber.specs.State.{State, with_blocks, with_digest, with_family, with_key, with_part, with_hand, with_acceptance}

-- a text made of what is there, or what is missing
abbrev pub given : {A : Type 0} → Option A → Missing → (A → Bytes) → Bytes
given None missing f = missing_text missing
given (Some a) missing f = f a

-- a seal part that is accepted, and the present family
abbrev pub ready : State → Result (Bytes × Shape) Missing
ready s = elim (cond s.accepted s.part None) [ None ↦ Err NotAccepted | Some p ↦ elim s.family [ None ↦ Err NoFamily | Some f ↦ Ok (p, f) ] ]

-- what a call makes of both
abbrev pub on_seal : {A : Type 0} → State → (A → Bytes) → (Bytes → Shape → Result A Refusal) → Bytes
on_seal s f call = elim (ready s) [ Err missing ↦ missing_text missing | Ok r ↦ text_of f (call r.0 r.1) ]

-- kind, name, next number and count left
abbrev pub key_text : Held → Bytes
key_text k = codes "key " ++ (decimal k.kind ++ (codes " " ++ (hex_text k.key.name ++ (codes " " ++ (decimal k.key.next ++ (codes " " ++ decimal k.key.left))))))

-- a seal of the state's blocks under the number in the hand
abbrev pub seal_in : State → Shape → Held → Bytes × ℕ → ℕ → Result ℕ Refusal
seal_in s f k h room = seal_answer f k.key h.0 h.1 s.blocks room

abbrev pub answer_text : Told → State → Bytes
answer_text clear s = codes "ok"
answer_text (cut text) s = text_of (λ n. codes "blocks " ++ decimal n) (cut_answer s.blocks text)
answer_text (add bytes) s = text_of (λ n. codes "block " ++ decimal n.0) (add_answer s.blocks bytes)
answer_text (rewrite j bytes) s = text_of (λ n. codes "total " ++ decimal n) (rewrite_answer s.blocks j bytes)
answer_text (show j) s = text_of (λ b. codes "block " ++ hex_text b) (block_answer s.blocks j)
answer_text sheet s = codes "blocks " ++ (decimal (length s.blocks) ++ (codes " total " ++ decimal (total_bytes s.blocks)))
answer_text (digest a) s = codes "digest " ++ decimal (digest_number a)
answer_text (family name) s = text_of family_text (name_answer name)
answer_text (choose n d) s = text_of family_text (choose_answer n d)
answer_text (rows j) s = given s.family NoFamily (λ f. rows_text f j)
answer_text (key w) s = text_of key_text (key_answer w)
answer_text draw s = given s.key NoKey (λ k. cond (is_some s.hand) (missing_text HandFull) (text_of (λ n. codes "number " ++ decimal n) (draw_answer k.key)))
answer_text burn s = given s.hand HandEmpty (λ h. codes "burned " ++ decimal h.1)
answer_text (seal room) s =
    given s.family NoFamily (λ f. given s.key NoKey (λ k. given s.hand HandEmpty (λ h. text_of (λ n. codes "sealed " ++ decimal n) (seal_in s f k h room))))
answer_text part s = given s.part NoPart (λ p. codes "part " ++ hex_text p)
answer_text (set_part bytes) s = codes "part " ++ decimal (length bytes)
answer_text accept s =
    given s.part NoPart (λ p. given s.key NoKey (λ k. text_of (λ a. codes "accepted " ++ decimal (seal_number a)) (accept_answer (inspection k.kind k.says) p)))
answer_text (check room) s = on_seal s (λ js. codes "named" ++ spaced js) (λ p f. check_answer (scheme_by s.digest f) p s.blocks room)
answer_text (vouch j v) s =
    on_seal s (λ r. codes "row " ++ (decimal r.0 ++ (codes " length " ++ decimal r.1))) (λ p f. vouch_answer (scheme_by s.digest f) p s.blocks j v)
answer_text (excerpt j i room) s = on_seal s (λ e. codes "excerpt " ++ hex_text e) (λ p f. excerpt_answer f p s.blocks j i room)
answer_text (confirm j i v e) s = on_seal s (λ _. codes "confirmed") (λ p f. confirm_answer (scheme_by s.digest f) p j i v e)
answer_text (pack room) s = given s.part NoPart (λ p. text_of (λ file. codes "file " ++ hex_text file) (pack_answer s.blocks p room))
answer_text (unpack file) s = text_of (λ r. codes "part " ++ (decimal r.0 ++ (codes " " ++ decimal r.1))) (unpack_answer s.blocks file)

-- the state after a call that made something of what is there
abbrev pub state_by : {A : Type 0} → (A → State) → State → Result A Refusal → State
state_by f s (Ok a) = f a
state_by f s (Err e) = s

abbrev pub state_given : {A : Type 0} → Option A → State → (A → State) → State
state_given None s f = s
state_given (Some a) s f = f a

-- the number goes into an empty hand
abbrev pub state_drawn : State → Held → State
state_drawn s k = cond (is_some s.hand) s (state_by (λ n. with_hand s (Some (drawn_from k)) (Some (k.key.name, n))) s (draw_answer k.key))

-- the hand is empty after a seal, and its part is there
abbrev pub state_sealed : State → Shape → Held → Bytes × ℕ → State
state_sealed s f k h = with_part (with_hand s s.key None) (Some (signed_part (scheme_by s.digest f) k.kind (k.signature h.1) h.1 s.blocks))

abbrev pub state_after : Told → State → State
state_after clear s = with_part (with_blocks s []) None
state_after (cut text) s = with_blocks s (after (cut_answer s.blocks text) (text_lines text) s.blocks)
state_after (add bytes) s = with_blocks s (after (add_answer s.blocks bytes) (s.blocks ++ bytes ∷ []) s.blocks)
state_after (rewrite j bytes) s = with_blocks s (after (rewrite_answer s.blocks j bytes) (with_block s.blocks j bytes) s.blocks)
state_after (digest a) s = with_digest s a
state_after (family name) s = state_by (with_family s) s (name_answer name)
state_after (choose n d) s = state_by (with_family s) s (choose_answer n d)
state_after (key w) s = state_by (with_key s) s (key_answer w)
state_after draw s = state_given s.key s (state_drawn s)
state_after burn s = with_hand s s.key None
state_after (seal room) s =
    state_given s.family s (λ f. state_given s.key s (λ k. state_given s.hand s (λ h. state_by (λ _. state_sealed s f k h) s (seal_in s f k h room))))
state_after (set_part bytes) s = with_part s (Some bytes)
state_after accept s =
    state_given s.part s (λ p. state_given s.key s (λ k. state_by (λ _. with_acceptance s true) s (accept_answer (inspection k.kind k.says) p)))
state_after (unpack file) s = state_by (λ _. with_part (with_blocks s (blocks_of_file file)) (Some (seal_of file))) s (unpack_answer s.blocks file)
state_after (pack room) s = s
state_after (show j) s = s
state_after sheet s = s
state_after (rows j) s = s
state_after part s = s
state_after (check room) s = s
state_after (vouch j v) s = s
state_after (excerpt j i room) s = s
state_after (confirm j i v e) s = s

-- The state is that after the call, with its answer; the text of a refusal or of what is missing is yet to be written. Where memory is short, nothing is known.
abbrev pub Answered : Told → State → State → Result (String Global) Stop → Type 0
Answered t old new (Ok s) = (new ≡ state_after t old) × (string_bytes s ≡ answer_text t old)
Answered t old new (Err (Refused e)) = (new ≡ state_after t old) × (answer_text t old ≡ shown_as e)
Answered t old new (Err (Lacking m)) = (new ≡ state_after t old) × (answer_text t old ≡ missing_text m)
Answered t old new (Err (OutOfMemory e)) = Unit {0}

-- a family that was made is taken
abbrev pub FamilyTaken : Shape → State → State → Result (String Global) Stop → Type 0
FamilyTaken f old new (Ok s) = (new ≡ with_family old f) × (string_bytes s ≡ family_text f)
FamilyTaken f old new (Err (Refused e)) = ⊥
FamilyTaken f old new (Err (Lacking m)) = ⊥
FamilyTaken f old new (Err (OutOfMemory e)) = Unit {0}

-- so is a key
abbrev pub KeyTaken : Held → State → State → Result (String Global) Stop → Type 0
KeyTaken k old new (Ok s) = (new ≡ with_key old k) × (string_bytes s ≡ key_text k)
KeyTaken k old new (Err (Refused e)) = ⊥
KeyTaken k old new (Err (Lacking m)) = ⊥
KeyTaken k old new (Err (OutOfMemory e)) = Unit {0}

-- the answer to a line that says a call, or none
abbrev pub told_text : Option Told → State → Bytes
told_text None s = codes "not understood"
told_text (Some t) s = answer_text t s

abbrev pub told_after : Option Told → State → State
told_after None s = s
told_after (Some t) s = state_after t s

-- what is printed of a line's first word and its answer
abbrev pub printed : Bytes → Bytes → Bytes
printed word answer = word ++ (codes ": " ++ (answer ++ 10 ∷ []))

-- what a line prints, and the state after it
unfoldable pub line_text : Bytes → State → Bytes
line_text line s = cond (silent line) [] (printed (first_word line) (told_text (line_told line) s))

unfoldable pub line_after : Bytes → State → State
line_after line s = cond (silent line) s (told_after (line_told line) s)

-- a number that is still in the hand at the end is burned
unfoldable pub end_text : State → Bytes
end_text s = elim s.hand [ None ↦ [] | Some h ↦ printed (codes "end") (codes "burned " ++ decimal h.1) ]

-- what lines print one after another, up to the end
unfoldable pub lines_text : List Bytes → State → Bytes
lines_text [] s = end_text s
lines_text (line ∷ rest) s = line_text line s ++ lines_text rest (line_after line s)

-- what a script prints that begins with a state; each line but the last ends before a byte 0A
unfoldable pub script_text : Bytes → State → Bytes
script_text script s = lines_text (parts_behind 10 [] script) s
