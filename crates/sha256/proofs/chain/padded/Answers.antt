use Rattle.std.proofs.Common.{◌≡◌, ◌-◌, ◌*◌, ◌%◌, ◌^◌, ◌∷◌, ◌++◌, length, drop, set, replicate, ap, ◌∙◌, mul_comm}
use borrow.Rule.Slice.PartMut.{put_mid}
use Rattle.std.proofs.lemmas.List.{drop-replicate}
use Rattle.sha256.specs.Sha256.{u64_bytes}
use Rattle.sha256.proofs.Padded.{padded_is}
use Rattle.sha256.proofs.chain.padded.Goals as goal

pub returns : goal.returns
returns g c =
    let last = c.args.last.now in
    let size = g.row.N in
    let n = length last in
    let zeros = drop n (replicate size 0) in
    let bits : c.copy_from_slice-2.new.self ≡ u64_bytes (8 * c.args.message % 2 ^ 64)
    = c.copy_from_slice-2.ensures.after ∙ c.to_be_bytes.ensures ∙ ap (λ k. u64_bytes (k % 2 ^ 64)) (mul_comm c.args.message 8) in
    ap (λ t. let all = set (t ++ zeros) n 0x80 in put_mid (size - 8) (length all - (size - 8)) all c.copy_from_slice-2.new.self) c.copy_from_slice.ensures.after
    ∙ padded_is last size c.requires zeros c.copy_from_slice-2.new.self (drop-replicate n size 0)
    ∙ ap (λ t. last ++ (0x80 ∷ (replicate (size - 9 - n) 0 ++ t))) bits
