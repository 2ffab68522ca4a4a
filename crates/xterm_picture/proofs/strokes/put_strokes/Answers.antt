use Rattle.std.proofs.Common.{◌++◌, length, subst, arith}
use Rattle.tape_core.specs.Devices.{Gave}
use Rattle.xterm_rows.specs.Runs.{begins}
use Rattle.xterm_rows.proofs.GroupLemmas.{groups_to}
use Rattle.xterm_rows.proofs.RunLemmas.{first_begins}
use Rattle.xterm_picture.specs.Strokes.{run_strokes, stroke_text, strokes_text}
use Rattle.xterm_picture.proofs.GroupLemmas.{all_gone, group_gone}
use Rattle.xterm_picture.proofs.strokes.put_strokes.Goals as goal

pub loop-at-init : goal.loop-at-init
loop-at-init g c = record {
  gave = c.gives_join.ensures.nothing c.args.writer.now;
  here = λ _. first_begins c.args.cells.now;
  low = omega arith;
  high = omega arith;
}

pub loop-at-preserved : goal.loop-at-preserved
loop-at-preserved g c =
    let cells = c.args.cells.now in
    let text = run_strokes c.args.reversed cells in
    let gone = Gave g.W.Write.contents c.args.writer.now c.put_stroke.new.writer in
    let run = c.run_at-run.ensures in
    group_gone _ gone text (begins cells) 0 c.loop-at.at (length cells) c.loop-at.invariant c.run_at-run.result.end c.loop-at-test.true run.some run.end
    (subst (λ r. gone (groups_to text (begins cells) 0 c.loop-at.at ++ stroke_text c.args.reversed cells r)) run.run
    (c.gives_join.ensures.both _ _ _ _ _ c.put_stroke.ensures c.loop-at.invariant.gave))

pub returns : goal.returns
unfolding strokes_text
returns g c =
    let cells = c.args.cells.now in
    all_gone (Gave g.W.Write.contents c.args.writer.now c.loop-at.writer) (run_strokes c.args.reversed cells) (begins cells) 0 c.loop-at.at (length cells)
    c.loop-at.invariant c.loop-at-test.false
