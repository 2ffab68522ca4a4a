use Rattle.std.proofs.Common.{◌≡◌, ◌++◌, ◌∙◌, ap, append_assoc, subst, sym}
use Rattle.tape_core.specs.Devices.{Gave}
use Rattle.vt_screen.specs.Cells.{row_at}
use Rattle.screen_picture.specs.Cursor.{cursor_text, rings_text}
use Rattle.screen_picture.specs.Framed.{frame_open, framed}
use Rattle.screen_picture.proofs.cursor.put_cursor.Goals as goal

pub returns : goal.returns
unfolding cursor_text
returns g c =
    let p = c.args.screen.now.picture in
    let reversed = c.args.reversed in
    let line = c.cursor-line.result.0 in
    let column = c.cursor-line.result.1 in
    let size = c.row.result.now.size in
    let opens : c.as_slice.result.now ≡ frame_open size line = c.as_slice.ensures.value ∙ c.frame_open.ensures in
    let rings : c.as_slice-2.result.now ≡ rings_text reversed column = c.as_slice-2.ensures.value ∙ c.rings_text.ensures in
    let is : c.as_slice.result.now ++ (c.as_slice-2.result.now ++ c.frame_close.result.now) ≡ cursor_text reversed p.rows p.line p.column =
    sym (append_assoc c.as_slice.result.now c.as_slice-2.result.now c.frame_close.result.now)
    ∙ ap (λ t. (t ++ c.as_slice-2.result.now) ++ c.frame_close.result.now) opens
    ∙ ap (λ t. (frame_open size line ++ t) ++ c.frame_close.result.now) rings
    ∙ ap (λ t. (frame_open size line ++ rings_text reversed column) ++ t) c.frame_close.ensures
    ∙ ap (λ r. framed r.size line (rings_text reversed column)) c.row.ensures.value
    ∙ ap (λ l. framed (row_at p.rows l).size l (rings_text reversed column)) c.cursor-line.ensures.line
    ∙ ap (λ k. framed (row_at p.rows p.line).size p.line (rings_text reversed k)) c.cursor-line.ensures.column in
    subst (λ t. Gave g.W.Write.contents c.args.writer.now c.give_all.new.self t) is c.give_all.ensures
