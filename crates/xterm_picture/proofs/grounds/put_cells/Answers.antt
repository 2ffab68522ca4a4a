use Rattle.std.proofs.Common.{◌-◌, ◌++◌, ◌∙◌, length, ap, subst, arith}
use Rattle.tape_core.specs.Devices.{Gave}
use Rattle.xterm_rows.proofs.GroupLemmas.{groups_to}
use Rattle.xterm_picture.specs.Grounds.{begins_ground, cell_grounds, down, ground_at, ground_text, patch_text}
use Rattle.xterm_picture.proofs.GroupLemmas.{all_gone, first_ground, group_gone}
use Rattle.xterm_picture.proofs.grounds.put_cells.Goals as goal

pub loop-at-init : goal.loop-at-init
loop-at-init g c = record {
  gave = c.gives_join.ensures.nothing c.args.writer.now;
  here = λ _. first_ground c.args.cells.now;
  low = omega arith;
  high = omega arith;
}

pub loop-at-preserved : goal.loop-at-preserved
loop-at-preserved g c =
    let cells = c.args.cells.now in
    let at = c.loop-at.at in
    let text = ground_text cells c.args.line in
    let before = groups_to text (begins_ground cells) 0 at in
    let gone = Gave g.W.Write.contents c.args.writer.now c.put_patch.new.writer in
    let end = c.ground_end-end.ensures in
    group_gone _ gone text (begins_ground cells) 0 at (length cells) c.loop-at.invariant c.ground_end-end.result c.loop-at-test.true end.some end.end
    (subst gone
    (ap (λ paint. before ++ patch_text paint c.down-top.result at (c.ground_end-end.result - at)) c.ground_at.ensures
    ∙ ap (λ top. before ++ patch_text (ground_at cells at) top at (c.ground_end-end.result - at)) c.down-top.ensures
    ∙ ap (λ e. before ++ patch_text (ground_at cells at) (down c.args.line) at (e - at)) end.end)
    (c.gives_join.ensures.both _ _ _ _ _ c.put_patch.ensures c.loop-at.invariant.gave))

pub returns : goal.returns
unfolding cell_grounds
returns g c =
    let cells = c.args.cells.now in
    all_gone (Gave g.W.Write.contents c.args.writer.now c.loop-at.writer) (ground_text cells c.args.line) (begins_ground cells) 0 c.loop-at.at (length cells)
    c.loop-at.invariant c.loop-at-test.false
