use Rattle.std.proofs.Common.{◌≡◌, ◌++◌, length, vec_items, refl, ap, ◌∙◌, zero-add, arith}
use Rattle.sheets.specs.Table.{pieces, line_ends}
use Rattle.sheets.specs.Blocks.{blocks_of}
use Rattle.sheets.proofs.Pieces.{rising}
use Rattle.sheets.proofs.Known.{none_held}
use Rattle.sheets.proofs.Lines.{lines_are, line_ends_rise}
use Rattle.sheets.proofs.Tells.{cut_allows}
use Rattle.sheets.proofs.sheet.Sheet.fill.Goals as goal

pub invariant_of-self-clause-whole : goal.invariant_of-self-clause-whole
invariant_of-self-clause-whole c =
    let text = c.args.text.now in
    let none = none_held c.args.self.now (cut_allows (blocks_of c.args.self.now) text c.requires).0 in
    let grown : c.extend_from_slice.new.self.len ≡ length text = rw c.unwrap.ensures at c.extend_from_slice.ensures.len ∙ omega (arith, none.2) in
    let ends = c.push_line_ends.ensures.items ∙ ap (λ t. t ++ line_ends 0 text) none.0 in
    rw (ends, grown) (rising 0 (line_ends 0 text) (length text) (rw zero-add at (line_ends_rise 0 0 text (omega arith) (λ _. refl))))

pub returns : goal.returns
returns c =
    let text = c.args.text.now in
    let none = none_held c.args.self.now (cut_allows (blocks_of c.args.self.now) text c.requires).0 in
    let bytes = rw c.unwrap.ensures at c.extend_from_slice.ensures.items ∙ ap (λ t. t ++ text) none.1 in
    let ends = c.push_line_ends.ensures.items ∙ ap (λ t. t ++ line_ends 0 text) none.0 in
    ap (λ es. pieces 0 es (vec_items c.extend_from_slice.new.self)) ends ∙ ap (pieces 0 (line_ends 0 text)) bytes ∙ lines_are text
