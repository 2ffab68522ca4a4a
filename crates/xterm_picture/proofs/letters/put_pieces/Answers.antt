use Rattle.std.proofs.Common.{◌++◌, subst, arith}
use Rattle.tape_core.specs.Devices.{Gave}
use Rattle.xterm_rows.proofs.GroupLemmas.{groups_to}
use Rattle.xterm_picture.specs.Letters.{begins_span, piece_text, span_text}
use Rattle.xterm_picture.proofs.GroupLemmas.{all_gone, first_span, group_gone, none_yet}
use Rattle.xterm_picture.proofs.letters.put_pieces.Goals as goal

pub loop-at-init : goal.loop-at-init
loop-at-init g c =
    let run = c.args.run in
    let begins = begins_span c.args.cells.now run.before in
    record {
      gave = subst (Gave g.W.Write.contents c.args.writer.now c.args.writer.now)
          (none_yet (span_text c.args.reversed c.args.cells.now run) begins run.before)
          (c.gives_join.ensures.nothing c.args.writer.now);
      here = λ _. first_span c.args.cells.now run.before;
      low = omega arith;
      high = c.requires.low;
    }

pub loop-at-preserved : goal.loop-at-preserved
loop-at-preserved g c =
    let cells = c.args.cells.now in
    let run = c.args.run in
    let at = c.loop-at.at in
    let begins = begins_span cells run.before in
    let text = span_text c.args.reversed cells run in
    let gone = Gave g.W.Write.contents c.args.writer.now c.put_piece.new.writer in
    let end = c.span_end-end.ensures in
    group_gone _ gone text begins run.before at run.end c.loop-at.invariant c.span_end-end.result c.loop-at-test.true end.some end.end
    (subst (λ e. gone (groups_to text begins run.before at ++ piece_text c.args.reversed cells run at e)) end.end
    (c.gives_join.ensures.both _ _ _ _ _ c.put_piece.ensures c.loop-at.invariant.gave))

pub returns : goal.returns
returns g c =
    let run = c.args.run in
    all_gone (Gave g.W.Write.contents c.args.writer.now c.loop-at.writer) (span_text c.args.reversed c.args.cells.now run) (begins_span c.args.cells.now run.before)
    run.before c.loop-at.at run.end c.loop-at.invariant c.loop-at-test.false
