use Rattle.std.proofs.Common.{refl, ap, ◌∙◌}
use Rattle.std.specs.Option.{ok_or}
use Rattle.answers.specs.declared.Refusal.TheVariants.{Malformed}
use Rattle.sheets.specs.Blocks.{blocks_of}
use Rattle.files.proofs.SealPlace.{part_there}
use Rattle.findings.proofs.Opened.{is_opened, head_there}
use Rattle.findings.proofs.file.unpack_head.Goals as goal

pub returns : goal.returns
returns c =
    let file = c.args.file.now in
    let old = blocks_of c.args.sheet.now in
    let answer = c.in_ok-place.ensures.answer in
    let good = is_opened old file c.in_ok-place.place c.in_ok-place.length answer in
    let head = c.head_of.ensures ∙ head_there file _ good (part_there old file c.in_ok-place.place c.in_ok-place.length answer) in
    let made = c.ok_or.ensures.value ∙ ap (λ o. ok_or o Malformed) head in
    rw made (good, refl, c.in_ok-place.ensures.blocks)
