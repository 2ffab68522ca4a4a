use Rattle.std.proofs.Common.{◌∙◌, ap, subst}
use Rattle.tape_core.specs.Devices.{Gave}
use Rattle.xterm_picture.specs.Cursor.{cursor_text}
use Rattle.xterm_picture.proofs.cursor.put_cursor.Goals as goal

pub returns : goal.returns
returns g c =
    let p = c.args.screen.now.picture in
    subst (Gave g.W.Write.contents c.args.writer.now c.put_line.new.writer)
    (ap (λ line. cursor_text c.args.reversed c.args.shown p.rows line c.cursor-line.result.1) c.cursor-line.ensures.line
    ∙ ap (cursor_text c.args.reversed c.args.shown p.rows p.line) c.cursor-line.ensures.column)
    c.put_line.ensures
