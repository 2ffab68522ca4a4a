use Rattle.std.proofs.Common.{◌≡◌, ◌+◌, ◌-◌, arith, subst, sym}
use Rattle.tape_core.specs.Devices.{Gave}
use Rattle.screen_picture.specs.Framed.{row_text, rows_text}
use Rattle.screen_picture.proofs.LineLemmas.{first_lines, line_more}
use Rattle.screen_picture.proofs.frames.put_rows.Goals as goal

pub loop-line-preserved : goal.loop-line-preserved
loop-line-preserved g c =
    let f = row_text c.args.reversed c.args.screen.now.picture.rows in
    let line = c.loop-line.line in
    let same : line ≡ line + 1 - 1 = omega arith in
    subst (λ n. Gave g.W.Write.contents c.args.writer.now c.put_row.new.writer (first_lines f n)) same
    (subst (λ t. Gave g.W.Write.contents c.args.writer.now c.put_row.new.writer t) (sym (line_more f line (omega arith)))
    (c.gives_join.ensures.both _ _ _ _ _ c.put_row.ensures c.loop-line.invariant))

pub returns : goal.returns
unfolding rows_text
returns g c =
    let last : c.loop-line.line - 1 ≡ 24 = omega arith in
    subst (λ n. Gave g.W.Write.contents c.args.writer.now c.loop-line.writer (first_lines (row_text c.args.reversed c.args.screen.now.picture.rows) n)) last c.loop-line.invariant
