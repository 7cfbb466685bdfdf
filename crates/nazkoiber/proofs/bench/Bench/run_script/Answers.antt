use Rattle.std.proofs.Common.{◌≡◌, rules, List, [], ◌∷◌, ◌++◌, vec_items, sym, refl, ap, ◌∙◌, append_assoc}
use Rattle.scripts.specs.Words.{Bytes}
use Rattle.scripts.specs.Lines.{parts_behind}
use Rattle.scripts.proofs.LineLemmas.{yields_parts, yields_more, yields_end}
use Rattle.nazkoiber.specs.State.{State, state}
use Rattle.nazkoiber.specs.Answering.{line_text, line_after, lines_text, script_text}
use Rattle.nazkoiber.proofs.bench.Bench.run_script.Goals as goal

pub loop-line-init : goal.loop-line-init
unfolding script_text
loop-line-init c =
    let script = c.args.script.now in (
      parts_behind 10 [] script,
      yields_parts 10 script _ (search rules) (search rules) (search rules) (λ x b q k. search rules),
      refl,
    )

line_more : (lines rest : List Bytes) (line old new all : Bytes) (s next : State)
    → lines ≡ line ∷ rest → new ≡ old ++ line_text line s → next ≡ line_after line s → old ++ lines_text lines s ≡ all → new ++ lines_text rest next ≡ all
unfolding lines_text
line_more lines rest line old new all s next l n a e = rw (n, a, append_assoc) (ap (λ ls. old ++ lines_text ls s) (sym l) ∙ e)

pub loop-line-preserved : goal.loop-line-preserved
loop-line-preserved c =
    let next = yields_more c.loop-line.invariant.0 c.in-Some.line c.loop-line.invariant.1 c.in-Some.ensures.steps in (
      next.0,
      next.2,
      line_more _ _ _ _ _ _ _ _ next.1 c.in_ok-run_line.ensures.text c.in_ok-run_line.ensures.after c.loop-line.invariant.2,
    )

pub returns : goal.returns
unfolding lines_text
returns c =
    let none = yields_end c.loop-line.invariant.0 c.loop-line.invariant.1 c.in-None.ensures.steps in
    ap (λ ls. vec_items c.loop-line.out ++ lines_text ls (state c.loop-line.self)) (sym none) ∙ c.loop-line.invariant.2
