-- What is opened: an accepted seal part with what it names, and the blocks of its file. Assumes nothing.
use Rattle.std.specs.Prelude.{List, [], Ok, Result}
use Rattle.answers.specs.declared.Refusal.{Refusal}
use Rattle.answers.specs.Refusals.{on_ok}
use Rattle.digests.specs.Strings.{Bytes}
use Rattle.files.specs.File.{unpack_answer, seal_of, blocks_of_file}
use Rattle.seals.specs.Calls.{accept_answer}
use Rattle.seals.specs.Scheme.{Scheme, Inspection}
use Rattle.desk.specs.Named.{scheme_named}

-- a seal part that an inspector accepts, and what it names
unfoldable pub part_answer : Inspection → Bytes → Result (Scheme × Bytes) Refusal
part_answer v part = on_ok (accept_answer v part) (λ accepted. on_ok (scheme_named part) (λ s. Ok (s, accepted)))

-- the same of a file's, and the file's blocks
unfoldable pub file_answer : Inspection → Bytes → Result ((Scheme × Bytes) × List Bytes) Refusal
file_answer v file = on_ok (unpack_answer [] file) (λ _. on_ok (part_answer v (seal_of file)) (λ a. Ok (a, blocks_of_file file)))
