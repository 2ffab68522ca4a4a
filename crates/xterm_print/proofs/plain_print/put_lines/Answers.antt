use Rattle.std.proofs.Common.{◌≡◌, ◌+◌, ◌-◌, ◌≤◌, ◌++◌, length, arith, ap, sym, ◌∙◌, subst}
use Rattle.tape_core.specs.Devices.{Gave}
use Rattle.xterm_rows.specs.RowText.{printed_line}
use Rattle.xterm_print.specs.PlainText.{plain_text}
use Rattle.xterm_print.proofs.PlainLemmas.{first_all, first_lines_more, first_texts}
use Rattle.xterm_print.proofs.plain_print.put_lines.Goals as goal

pub loop-line-preserved : goal.loop-line-preserved
loop-line-preserved g c =
    let rows = c.args.screen.now.picture.rows in
    let line = c.loop-line.line in
    let whole = c.cursor-cursor.ensures.sound.rows in
    let within : line ≤ length rows = omega (arith, whole, c.lines-line-end.ensures.value, c.loop-line-test.true) in
    let same : line + 1 - 1 ≡ line = omega arith in
    subst (Gave g.W.Write.contents c.args.writer.now c.put_row.new.writer)
    (ap (λ row. first_texts printed_line rows (line - 1) ++ printed_line row) c.row.ensures.value
    ∙ sym (first_lines_more rows line c.loop-line.auto.line within) ∙ ap (first_texts printed_line rows) (sym same))
    (c.gives_join.ensures.both _ _ _ _ _ c.put_row.ensures c.loop-line.invariant)

pub returns : goal.returns
unfolding plain_text
returns g c =
    let rows = c.args.screen.now.picture.rows in
    let all : length rows ≤ c.loop-line.line - 1 =
    omega (arith, c.cursor-cursor.ensures.sound.rows, c.lines-line-end.ensures.value, c.loop-line-test.false) in
    subst (Gave g.W.Write.contents c.args.writer.now c.loop-line.writer) (first_all printed_line rows (c.loop-line.line - 1) all)
    c.loop-line.invariant
