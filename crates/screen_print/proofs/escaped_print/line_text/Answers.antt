use Rattle.std.proofs.Common.{◌≡◌, ◌++◌, ap, ap₂, sym, ◌∙◌, false, true}
use Rattle.screen_print.specs.EscapedText.{pen_after_line, is_left_out, placed_text, size_text, cells_text, pen_after}
use Rattle.screen_rows.specs.Ink.{inked}
use Rattle.screen_print.proofs.EscapedLemmas.{left_out_text, left_out_pen, written_text}
use Rattle.screen_print.proofs.escaped_print.line_text.Goals as goal

pub returns-then-not-is_left_out-clause-text : goal.returns-then-not-is_left_out-clause-text
returns-then-not-is_left_out-clause-text c =
    let row = c.args.row.now in
    let written : is_left_out row.size (inked row.cells) ≡ false = cc in
    c.push_cells.ensures.text
    ∙ ap₂ (λ t cells. t ++ cells_text c.args.pen.now cells)
    (c.push_size.ensures.text ∙ ap (λ t. t ++ size_text row.size) (c.push_place.ensures.text ∙ ap (λ t. t ++ placed_text c.args.line 1) c.new-text.ensures))
    c.inked-cells.ensures
    ∙ sym (written_text c.args.pen.now c.args.line row written)

pub returns-then-not-is_left_out-clause-pen : goal.returns-then-not-is_left_out-clause-pen
unfolding pen_after_line
returns-then-not-is_left_out-clause-pen c = c.push_cells.ensures.pen ∙ ap (pen_after c.args.pen.now) c.inked-cells.ensures

pub returns-else-not-is_left_out-clause-text : goal.returns-else-not-is_left_out-clause-text
returns-else-not-is_left_out-clause-text c =
    let row = c.args.row.now in
    let out : is_left_out row.size (inked row.cells) ≡ true = cc in
    c.new-text.ensures ∙ sym (left_out_text c.args.pen.now c.args.line row out)

pub returns-else-not-is_left_out-clause-pen : goal.returns-else-not-is_left_out-clause-pen
returns-else-not-is_left_out-clause-pen c =
    let row = c.args.row.now in
    let out : is_left_out row.size (inked row.cells) ≡ true = cc in
    sym (left_out_pen c.args.pen.now row out)
