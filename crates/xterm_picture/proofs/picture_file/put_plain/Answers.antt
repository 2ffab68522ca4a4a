use Rattle.std.proofs.Common.{◌≡◌, ◌+◌, ◌-◌, ◌≤◌, ◌++◌, length, arith, ap, sym, ◌∙◌, subst}
use Rattle.tape_core.specs.Devices.{Gave}
use Rattle.xterm_picture.specs.Picture.{plain_line}
use Rattle.xterm_picture.proofs.TextLemmas.{first_all, first_rows_more, first_texts}
use Rattle.xterm_picture.proofs.picture_file.put_plain.Goals as goal

pub loop-line-preserved : goal.loop-line-preserved
loop-line-preserved g c =
    let rows = c.args.screen.now.picture.rows in
    let line = c.loop-line.line in
    let whole = c.cursor-cursor.ensures.sound.rows in
    let within : line ≤ length rows = omega (arith, whole, c.lines-line-end.ensures.value, c.loop-line-test.true) in
    let same : line + 1 - 1 ≡ line = omega arith in
    subst (Gave g.W.Write.contents c.args.writer.now c.put_plain_line.new.writer)
    (ap (λ row. first_texts plain_line rows (line - 1) ++ plain_line row) c.row.ensures.value
    ∙ sym (first_rows_more plain_line rows line c.loop-line.auto.line within) ∙ ap (first_texts plain_line rows) (sym same))
    (c.gives_join.ensures.both _ _ _ _ _ c.put_plain_line.ensures c.loop-line.invariant)

pub returns : goal.returns
returns g c =
    let rows = c.args.screen.now.picture.rows in
    let all : length rows ≤ c.loop-line.line - 1 =
    omega (arith, c.cursor-cursor.ensures.sound.rows, c.lines-line-end.ensures.value, c.loop-line-test.false) in
    subst (Gave g.W.Write.contents c.args.writer.now c.loop-line.writer) (first_all plain_line rows (c.loop-line.line - 1) all)
    c.loop-line.invariant
