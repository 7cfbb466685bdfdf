use Rattle.std.proofs.Common.{Some, sym, ap, ◌∙◌}
use Rattle.std.specs.Option.{option_map}
use Rattle.told.specs.Names.{family_named, name_answer}
use Rattle.told.specs.Texts.{family_text, text_of}
use Rattle.vectors.proofs.Named.{was_read}
use Rattle.vectors.proofs.family.answer_family.Goals as goal

pub returns : goal.returns
returns c =
    ap (option_map (λ name. text_of family_text (name_answer name))) (was_read (family_named c.args.words) c.in_ok-name.name c.in_ok-name.ensures)
    ∙ ap Some (sym (c.in_ok-print_family.ensures ∙ ap (text_of family_text) c.make.ensures))
