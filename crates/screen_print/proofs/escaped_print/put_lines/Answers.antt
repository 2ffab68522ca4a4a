use Rattle.std.proofs.Common.{◌≡◌, ◌+◌, ◌-◌, take, ap, ap₂, sym, ◌∙◌, subst, arith}
use Rattle.vt_screen.specs.Cells.{row_at}
use Rattle.tape_core.specs.Devices.{Gave}
use Rattle.screen_print.specs.EscapedText.{first_pen, line_text, pen_after_line, pen_after_lines}
use Rattle.screen_print.proofs.EscapedLemmas.{no_lines_text, no_lines_pen, lines_text_more, pen_after_lines_more}
use Rattle.screen_print.proofs.escaped_print.put_lines.Goals as goal

pub loop-line-init : goal.loop-line-init
loop-line-init g c = record {
  took = subst (Gave g.W.Write.contents c.args.writer.now c.args.writer.now) (sym (no_lines_text first_pen 1)) (c.gives_join.ensures.nothing c.args.writer.now);
  pen = c.first-pen.ensures ∙ sym (no_lines_pen first_pen);
}

pub loop-line-preserved : goal.loop-line-preserved
loop-line-preserved g c =
    let rows = c.args.screen.now.picture.rows in
    let line = c.loop-line.line in
    let before = take (line - 1) rows in
    let whole = c.screens_are_sound.ensures.rows in
    let same : line ≡ line + 1 - 1 = omega arith in
    let text : c.as_slice.result.now ≡ line_text (pen_after_lines first_pen before) line (row_at rows line) =
    c.as_slice.ensures.value ∙ c.line_text.ensures.text ∙ ap₂ (λ pen row. line_text pen line row) c.loop-line.invariant.pen c.row.ensures.value in
    record {
      took = rw (← same, lines_text_more first_pen rows line (omega arith) (omega arith), ← text)
          (c.gives_join.ensures.both _ _ _ _ _ c.give.ensures c.loop-line.invariant.took);
      pen =
          c.line_text.ensures.pen ∙ ap₂ pen_after_line c.loop-line.invariant.pen c.row.ensures.value
          ∙ sym (pen_after_lines_more first_pen rows line (omega arith) (omega arith)) ∙ ap (λ n. pen_after_lines first_pen (take n rows)) same;
    }
