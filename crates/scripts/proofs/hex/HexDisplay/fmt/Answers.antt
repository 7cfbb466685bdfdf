use Rattle.std.proofs.Common.{◌<◌, ◌++◌, length, sym, ◌∙◌, rules, arith}
use Rattle.std.proofs.Output.{has_written_append, has_written_of_eq}
use Rattle.std.proofs.lemmas.Bool.Decides.{nat_tests}
use Rattle.std.proofs.lemmas.Bool.{eqb-true}
use Rattle.std.specs.Slice.Iter.{chunks_rest}
use Rattle.scripts.specs.Hex.{pairs_text}
use Rattle.scripts.proofs.HexLemmas.{text_none, text_pairs, text_parts, text_over}
use Rattle.scripts.proofs.hex.HexDisplay.fmt.Goals as goal

pub returns-then-is_empty-clause-writes : goal.returns-then-is_empty-clause-writes
returns-then-is_empty-clause-writes g c = λ plain ok.
    has_written_of_eq _ _ _ _ _ (text_none c.args.self.now.0.now (eqb-true _ _ (sym c.if-is_empty.ensures))) (c.write_str.ensures.writes plain ok)

pub write_piece-requires : goal.write_piece-requires
write_piece-requires g c = let size = c.loop-piece.invariant.2 in omega (arith, c.in-Some.ensures.steps.1.1)

pub loop-piece-preserved : goal.loop-piece-preserved
loop-piece-preserved g c =
    let steps = c.in-Some.ensures.steps in (
      search rules,
      tt,
      steps.0 ∙ c.loop-piece.invariant.2,
      λ plain.
          let so_far = c.loop-piece.invariant.3 plain in (
            so_far.0 ++ pairs_text c.in-Some.piece.now,
            has_written_append _ _ _ _ _ _ so_far.1 (search rules),
            text_parts _ _ (chunks_rest c.next.new.self) so_far.0 steps.1.0 ∙ so_far.2,
          ),
    )

pub returns-clause-writes : goal.returns-clause-writes
returns-clause-writes g c = λ plain _.
    let bytes = c.args.self.now.0.now in
    let some : 0 < length bytes = let e = c.if-is_empty.ensures in grind (arith, nat_tests) in
    let so_far = c.loop-piece.invariant.3 plain in
    has_written_of_eq _ _ _ _ _ (sym (text_over (chunks_rest c.loop-piece.piece-iterator) so_far.0 c.in-None.ensures.steps.1.0) ∙ so_far.2 ∙ text_pairs bytes some) so_far.1
