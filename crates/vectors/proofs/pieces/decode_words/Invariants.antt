use Rattle.std.proofs.Common.{◌≡◌, ◌++◌, List}
use Rattle.std.specs.Option.{option_map}
use Rattle.std.proofs.lemmas.Iterator.{YieldsList}
use Rattle.scripts.specs.Words.{Bytes}
use Rattle.vectors.specs.Pieced.{pieces_in, all_hex, words_pieces}
use Rattle.vectors.proofs.pieces.decode_words.Given as goal

-- with the words that are left it makes all pieces
abbrev pub invariant-loop-word : goal.invariant-loop-word
invariant-loop-word l =
    (rest : List Bytes) × YieldsList goal.iterator-loop-word.next_gives (λ x. x.now) l.word-iterator rest
    × (option_map (λ t. pieces_in l.pieces ++ t) (all_hex rest) ≡ words_pieces l.fn.words)
