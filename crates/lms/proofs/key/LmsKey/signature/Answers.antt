use Rattle.std.proofs.Common.{◌≡◌, ℕ, ◌+◌, ◌/◌, ◌^◌, ◌++◌, length, take, bit_xor, ap, ◌∙◌, subst, sym, arith}
use Rattle.std.proofs.lemmas.List.{take_all}
use Rattle.digests.specs.Strings.{Bytes}
use Rattle.sha256.specs.Sha256.{sha256_of}
use Rattle.lms.specs.Strings.{u32str, concat_all}
use Rattle.lms.specs.Lmots.{lmots_sign}
use Rattle.lms.specs.Lms.{chain_start, leaf_randomizer, path_node, lms_sign}
use Rattle.lms.specs.Nodes.{node_at}
use Rattle.lms.specs.StringsLaw.{concat_same}
use Rattle.lms.specs.TreeLaw.{nodes_make_the_tree}
use Rattle.lms.proofs.key.LmsKey.signature.Goals as goal

pub returns : goal.returns
unfolding u32str lms_sign
returns c =
    let key = c.args.self.now in
    let leaf : ℕ = c.args.leaf.now.number in
    let ots : Bytes → Bytes = λ id. lmots_sign sha256_of id leaf (chain_start sha256_of id key.seed leaf) (leaf_randomizer sha256_of id key.seed leaf) c.args.text.now in
    let path : Bytes = concat_all 5 (λ i. node_at key.nodes (bit_xor ((32 + leaf) / 2 ^ i) 1)) in
    let begins : take 4 c.put.new.out ≡ u32str leaf
    = subst (λ (b : Bytes). take (0 + length b) c.put.new.out ≡ b) c.to_be_bytes.ensures c.put.ensures in
    let signed : take 1128 c.sign.new.signature ≡ u32str leaf ++ ots key.id
    = c.sign.ensures ∙ ap (λ (s : Bytes). s ++ ots c.args.leaf.now.id) begins ∙ ap (λ (id : Bytes). u32str leaf ++ ots id) c.requires in
    let typed : take 1132 c.put-2.new.out ≡ u32str leaf ++ ots key.id ++ u32str 5
    = subst (λ (b : Bytes). take (1128 + length b) c.put-2.new.out ≡ take 1128 c.sign.new.signature ++ b) c.to_be_bytes-2.ensures c.put-2.ensures
    ∙ ap (λ (s : Bytes). s ++ u32str 5) signed in
    let tree = nodes_make_the_tree sha256_of key.id key.seed (node_at key.nodes) key.built in
    let paths : path ≡ concat_all 5 (path_node sha256_of key.id key.seed leaf)
    = concat_same 5 (λ i. node_at key.nodes (bit_xor ((32 + leaf) / 2 ^ i) 1)) (path_node sha256_of key.id key.seed leaf) (λ i l. tree.paths leaf i c.args.leaf.now.within l) in
    sym (take_all 1292 c.sign_path.new.signature (omega arith))
    ∙ c.sign_path.ensures
    ∙ ap (λ (s : Bytes). s ++ path) typed
    ∙ ap (λ (s : Bytes). u32str leaf ++ ots key.id ++ u32str 5 ++ s) paths
