use Rattle.std.proofs.Common.{length, sym, ◌∙◌, arith}
use Rattle.std.proofs.lemmas.List.{length-take-le}
use Rattle.sheets.specs.Blocks.{blocks_of}
use Rattle.seals.specs.Scheme.{scheme, inspection}
use Rattle.seals.specs.Part.{text_to_sign, signed_part}
use Rattle.seals.proofs.Framed.{fits}
use Rattle.seals.proofs.Sealed.{counted, was_drawn, has_room, length_is}
use Rattle.seals.proofs.Promises.{sealed_promises, seen_alike}
use Rattle.seals.proofs.sealing.seal.Goals as goal

pub slice_bounds-write_part-end-2 : goal.slice_bounds-write_part-end-2
slice_bounds-write_part-end-2 g c = sym (length-take-le c.in-Ok.length c.args.out.now (has_room (g.F.Family.shape c.args.family.now) (g.S.Sealer.key c.args.sealer.now) c.args.drawn.key
    c.args.drawn.number (blocks_of c.args.sheet.now) (length c.args.out.now) c.in-Ok.length c.in-Ok.ensures))

pub write_part-requires-clause-room : goal.write_part-requires-clause-room
write_part-requires-clause-room g c =
    let f = g.F.Family.shape c.args.family.now in
    let key = g.S.Sealer.key c.args.sealer.now in
    let bs = blocks_of c.args.sheet.now in
    let room = length c.args.out.now in
    let e = c.in-Ok.ensures in
    length-take-le c.in-Ok.length c.args.out.now (has_room f key c.args.drawn.key c.args.drawn.number bs room c.in-Ok.length e)
    ∙ length_is f key c.args.drawn.key c.args.drawn.number bs room c.in-Ok.length e

pub returns-clause-law : goal.returns-clause-law
returns-clause-law g c = λ own owned.
    let f = g.F.Family.shape c.args.family.now in
    let sealer = c.args.sealer.now in
    let key = g.S.Sealer.key sealer in
    let number = c.args.drawn.number in
    let bs = blocks_of c.args.sheet.now in
    let room = length c.args.out.now in
    let e = c.in-Ok.ensures in
    let s = scheme g.D.Digest.digest g.D.Digest.KIND f in
    let kind = g.S.Inspector.kind sealer in
    let says = g.S.Inspector.says sealer in
    let sign = g.S.Sealer.signature sealer number in
    let text = text_to_sign s kind number bs in
    let drawn = was_drawn f key c.args.drawn.key number bs room c.in-Ok.length e in
    let alike = g.met.S.Sealer.own_alike sealer own owned in
    let lawful = g.met.S.Sealer.lawful sealer in
    let enough = lawful.numbers_fit in
    seen_alike s kind says (g.S.Own.Inspector.kind own) (g.S.Own.Inspector.says own) (signed_part s kind sign number bs) bs alike.0 alike.1
    (sealed_promises s (inspection kind says) number bs (sign text)
    (record {
      counted = counted f key c.args.drawn.key number bs room c.in-Ok.length e;
      fits = fits c.args.sheet.now;
      lawful = g.met.F.Family.lawful c.args.family.now;
      digest_size = g.met.D.Digest.thirty_two;
      digest_named = g.met.D.Digest.kind_range.0;
      sealer_named = (g.met.S.Inspector.kind_range sealer).0;
      number_fits = omega (arith, drawn, enough);
      signature_fits = omega (arith, g.met.S.Sealer.sized sealer number text, lawful.size_fits);
      genuine = g.met.S.Sealer.genuine sealer number text drawn;
    }))
