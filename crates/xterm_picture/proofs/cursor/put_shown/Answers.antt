use Rattle.std.proofs.Common.{ap, subst}
use Rattle.tape_core.specs.Devices.{Gave}
use Rattle.xterm_picture.specs.Attributes.{text_where}
use Rattle.xterm_picture.specs.Cursor.{mark_text}
use Rattle.xterm_picture.proofs.cursor.put_shown.Goals as goal

pub returns : goal.returns
returns g c =
    subst (Gave g.W.Write.contents c.args.writer.now c.put_mark_where.new.writer)
    (ap (λ row. text_where c.args.shown (mark_text c.args.reversed row c.args.column)) c.row.ensures.value)
    c.put_mark_where.ensures
