use Rattle.std.proofs.Common.{◌≡◌, ◌+◌, ◌-◌, ◌∙◌, ap, ap₂, length, subst, sym, take}
use Rattle.std.specs.List.{flat_map}
use Rattle.sheet.specs.Grid.{row_at}
use Rattle.standings.specs.Rows.{row_below}
use Rattle.xterm_rows.specs.RowText.{characters}
use Rattle.xterm_screen.specs.Picture.{Picture, Sound}
use Rattle.xterm_term.specs.Console.{Console}
use Rattle.xterm_print.specs.FindRows.{row_read}
use Rattle.xterm_print.proofs.PieceLemmas.{row_behind}
use Rattle.xterm_print.proofs.pieces.cursor_place.Goals as goal

pub returns-clause-before : goal.returns-clause-before
returns-clause-before c = λ x shows rows.
    let p = x.console.picture in
    let next = row_at p.rows (p.line + 1) in
    let same : c.screen-screen.result.now.picture ≡ p = c.screen-screen.ensures.value ∙ ap (λ (s : Console). s.picture) (sym shows.console) in
    let line = c.cursor-line.ensures.line ∙ ap (λ (q : Picture). q.line) same in
    let column = c.cursor-line.ensures.column ∙ ap (λ (q : Picture). q.column) same in
    let cells : c.row-cells.result.now ≡ row_at p.rows p.line =
    c.row-cells.ensures.value ∙ ap₂ row_at (ap (λ (q : Picture). q.rows) same) line in
    c.count_before-before.ensures next
    (ap₂ (λ r n. row_below r (n - 1)) (c.deref.ensures.value ∙ rows) line ∙ row_behind x (subst Sound same c.cursor-line.ensures.sound) ∙ ap (λ r. row_read r next) (sym cells))
    ∙ ap₂ (λ r n. length (flat_map characters (take (n - 1) r))) cells column
