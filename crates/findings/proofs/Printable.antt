-- Printable bytes are text.
use Rattle.std.specs.Prelude.{◌≡◌, zero, suc, true, [], ◌∷◌, nat_le}
use Rattle.std.proofs.Common.{arith}
use Rattle.std.specs.List.{list_all}
use Rattle.std.specs.Str.{IsUtf8, IsAscii}
use Rattle.std.proofs.lemmas.Str.{IsUtf8-from_ascii}
use Rattle.std.proofs.lemmas.Bool.{and_parts, leb-true}
use Rattle.sheets.specs.Table.{Bytes}
use Rattle.findings.specs.Lines.{is_printable}

printable_ascii : (line : Bytes) → list_all is_printable line ≡ true → IsAscii line
printable_ascii [] all i = omega arith
printable_ascii (x ∷ xs) all zero =
    let here = and_parts (is_printable x) _ all in
    let low = leb-true x 126 (and_parts (nat_le 32 x) _ here.0).1 in
    omega arith
printable_ascii (x ∷ xs) all (suc i) = printable_ascii xs (and_parts (is_printable x) _ all).1 i

pub printable_utf8 : (line : Bytes) → list_all is_printable line ≡ true → IsUtf8 line
printable_utf8 line all = IsUtf8-from_ascii line (printable_ascii line all)
