-- Bytes in pieces, as words of a line say them. Assumes nothing.
use Rattle.std.specs.Prelude.{ℕ, List, [], ◌∷◌, map, replicate, Some, vec_items, Option, Vec}
use Rattle.std.specs.List.{flat_map}
use Rattle.std.specs.declared.alloc.Global.{Global}
use Rattle.scripts.specs.Words.{Bytes}
use Rattle.scripts.specs.Hex.{both, hex_bytes}
use Rattle.scripts.specs.Lines.{parts_behind}

abbrev pub pieces_in : Vec (Vec ℕ Global) Global → List Bytes
pieces_in v = map vec_items (vec_items v)

-- the bytes of each word, if all are hex
unfoldable pub all_hex : List Bytes → Option (List Bytes)
all_hex [] = Some []
all_hex (word ∷ words) = both (λ b bs. b ∷ bs) (hex_bytes word) (all_hex words)

-- words set apart by single spaces
unfoldable pub words_pieces : Bytes → Option (List Bytes)
words_pieces words = all_hex (parts_behind 32 [] words)

-- the same bytes so many times
unfoldable pub repeated : ℕ → Bytes → Bytes
repeated count piece = flat_map (λ p. p) (replicate count piece)
