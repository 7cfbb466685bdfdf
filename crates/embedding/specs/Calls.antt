-- What each call answers: the library's calls, one after another. Assumes nothing.
use Rattle.std.specs.Prelude.{ℕ, List, [], Ok, Err, Result}
use Rattle.answers.specs.declared.Refusal.{Refusal}
use Rattle.answers.specs.Refusals.{on_ok}
use Rattle.desk.specs.Made.{part_made}
use Rattle.desk.specs.Named.{scheme_by}
use Rattle.desk.specs.Opened.{part_answer, file_answer}
use Rattle.digests.specs.Strings.{Bytes}
use Rattle.families.specs.Choice.{choose_answer}
use Rattle.files.specs.File.{pack_answer}
use Rattle.keyfiles.specs.Drawing.{words_drawn}
use Rattle.seals.specs.Part.{seal_number}
use Rattle.seals.specs.Calls.{check_answer, vouch_answer, excerpt_answer, confirm_answer}
use Rattle.sheets.specs.Calls.{text_lines, cut_answer}
use Rattle.embedding.specs.Given.{key_answer, words_answer, inspection_by}

-- the changed blocks of a file, and the seal's number
unfoldable pub check_file : Bytes → ℕ → Bytes → ℕ → Result (List ℕ × ℕ) Refusal
check_file file digest secret room =
    on_ok (key_answer digest secret) (λ key.
    on_ok (file_answer (inspection_by key) file) (λ o.
    on_ok (check_answer o.0.0 o.0.1 o.1 room) (λ named. Ok (named, seal_number o.0.1))))

-- the blocks that a check names
abbrev pub named_blocks : Result (List ℕ × ℕ) Refusal → Result (List ℕ) Refusal
named_blocks (Ok r) = Ok r.0
named_blocks (Err e) = Err e

-- a row by which bytes offered for a block can be told, and the length of its excerpt
unfoldable pub vouch_file : Bytes → ℕ → Bytes → ℕ → Bytes → Result (ℕ × ℕ) Refusal
vouch_file file digest secret block offered =
    on_ok (key_answer digest secret) (λ key.
    on_ok (file_answer (inspection_by key) file) (λ o. vouch_answer o.0.0 o.0.1 o.1 block offered))

-- the excerpt of a block and a row
unfoldable pub excerpt_file : Bytes → ℕ → Bytes → ℕ → ℕ → ℕ → Result Bytes Refusal
excerpt_file file digest secret block row room =
    on_ok (key_answer digest secret) (λ key.
    on_ok (file_answer (inspection_by key) file) (λ o. excerpt_answer o.0.0.family o.0.1 o.1 block row room))

-- whether offered bytes are those that were sealed, by a seal part and an excerpt
unfoldable pub confirm_part : Bytes → ℕ → Bytes → ℕ → ℕ → Bytes → Bytes → Result (Unit {0}) Refusal
confirm_part part digest secret block row offered excerpt =
    on_ok (key_answer digest secret) (λ key.
    on_ok (part_answer (inspection_by key) part) (λ a. confirm_answer a.0 a.1 block row offered excerpt))

-- the file of the blocks that a text is cut into, and a seal part
unfoldable pub pack_text : Bytes → Bytes → ℕ → Result Bytes Refusal
pack_text text part room = on_ok (cut_answer [] text) (λ _. pack_answer (text_lines text) part room)

-- the file of a text that is sealed by the family chosen for so many changes, under a number of a tag key
unfoldable pub seal_text : Bytes → ℕ → ℕ → Bytes → Bytes → ℕ → ℕ → Result Bytes Refusal
seal_text text digest changes secret name number room =
    on_ok (words_answer digest secret name number) (λ key.
    on_ok (cut_answer [] text) (λ n.
    on_ok (choose_answer n changes) (λ f.
    on_ok (words_drawn key.1) (λ d.
    on_ok (part_made (scheme_by key.0 f) d.0.kind d.0.key d.0.signature d.1.0 d.1.1 (text_lines text)) (λ part.
    pack_answer (text_lines text) part room)))))
