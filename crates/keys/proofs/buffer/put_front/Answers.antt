use Rattle.std.proofs.Common.{rules}
use Rattle.std.proofs.lemmas.Slice.{overwrites}
use Rattle.keys.proofs.Front.{front_same}
use Rattle.keys.proofs.buffer.put_front.Goals as goal

pub returns : goal.returns
returns c =
    let whole = c.copy_from_slice.ensures.after in
    record { buffer = search (rules, overwrites); front = simp whole (front_same c.args.bytes.now _) }
