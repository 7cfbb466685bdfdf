use Rattle.std.proofs.Common.{Some, sym, ap, ◌∙◌}
use Rattle.std.specs.Option.{option_map}
use Rattle.families.specs.Shape.{Shape}
use Rattle.scripts.specs.Words.{Bytes}
use Rattle.told.specs.Names.{family_named, name_answer}
use Rattle.told.specs.Texts.{rows_text, text_of}
use Rattle.vectors.proofs.Named.{was_read}
use Rattle.vectors.proofs.family.rows_in_family.Goals as goal

pub returns : goal.returns
returns c =
    let rows : Shape → Bytes = λ f. rows_text f c.args.block.0 in
    ap (option_map (λ name. text_of rows (name_answer name))) (was_read (family_named c.args.words) c.in_ok-name.name c.in_ok-name.ensures)
    ∙ ap Some (sym (c.in_ok-print_rows.ensures ∙ ap (text_of rows) c.make.ensures))
