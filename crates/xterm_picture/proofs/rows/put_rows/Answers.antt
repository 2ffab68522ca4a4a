use Rattle.std.proofs.Common.{◌≡◌, ◌-◌, length, subst, sym, arith}
use Rattle.std.specs.List.{flat_map, range_with_len}
use Rattle.tape_core.specs.Devices.{Gave}
use Rattle.xterm_rows.proofs.RangeLemmas.{texts_more}
use Rattle.xterm_picture.specs.Framed.{row_text, rows_text}
use Rattle.xterm_picture.proofs.rows.put_rows.Goals as goal

pub loop-line-preserved : goal.loop-line-preserved
loop-line-preserved g c =
    subst (Gave g.W.Write.contents c.args.writer.now c.put_row.new.writer)
    (sym (texts_more (row_text c.args.reversed c.args.screen.now.picture.rows) 1 c.loop-line.line c.loop-line.auto.line))
    (c.gives_join.ensures.both _ _ _ _ _ c.put_row.ensures c.loop-line.invariant)

pub returns : goal.returns
unfolding rows_text
returns g c =
    let rows = c.args.screen.now.picture.rows in
    let all : c.loop-line.line - 1 ≡ length rows =
    omega (arith, c.cursor-cursor.ensures.sound.rows, c.lines-line-end.ensures.value, c.lines-line-end.ensures.low, c.loop-line.auto.line-end, c.loop-line-test.false) in
    subst (λ n. Gave g.W.Write.contents c.args.writer.now c.loop-line.writer (flat_map (row_text c.args.reversed rows) (range_with_len 1 n)))
    all c.loop-line.invariant
