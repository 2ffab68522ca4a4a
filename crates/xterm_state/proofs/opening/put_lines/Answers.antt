use Rattle.std.proofs.Common.{◌≡◌, ◌+◌, ◌-◌, ◌≤◌, ◌++◌, length, take, ap, ap₂, sym, ◌∙◌, subst, arith}
use Rattle.tape_core.specs.Devices.{Gave}
use Rattle.xterm_escaped.specs.EscapedText.{no_rendition, line_text, lines_text, rendition_after_line, rendition_after_lines}
use Rattle.xterm_escaped.proofs.EscapedLemmas.{no_lines_text, no_lines_rendition, lines_text_more, rendition_after_lines_more, all_lines_text}
use Rattle.xterm_state.specs.StateText.{sheet_rows}
use Rattle.xterm_state.proofs.TextLemmas.{rows_long}
use Rattle.xterm_state.proofs.opening.put_lines.Goals as goal

pub loop-line-init : goal.loop-line-init
loop-line-init g c = record {
  gave = subst (Gave g.W.Write.contents c.args.writer.now c.args.writer.now) (sym (no_lines_text no_rendition 1)) (c.gives_join.ensures.nothing c.args.writer.now);
  last = c.plain_on-last.ensures ∙ sym (no_lines_rendition no_rendition);
}

pub loop-line-preserved : goal.loop-line-preserved
loop-line-preserved g c =
    let rows = sheet_rows c.args.alternate c.args.screen.now.picture in
    let line = c.loop-line.line in
    let before = take (line - 1) rows in
    let within : line ≤ length rows = omega (arith, rows_long c.args.alternate c.args.screen.now.picture c.cursor-cursor.ensures.sound, c.lines-line-end.ensures.value, c.loop-line-test.true) in
    let same : line ≡ line + 1 - 1 = omega arith in
    record {
      gave =
          subst (Gave g.W.Write.contents c.args.writer.now c.put_line-last.new.writer)
          (ap₂ (λ r row. lines_text no_rendition 1 before ++ line_text r line row) c.loop-line.invariant.last c.sheet_row.ensures
          ∙ sym (lines_text_more no_rendition rows line c.loop-line.auto.line within) ∙ ap (λ n. lines_text no_rendition 1 (take n rows)) same)
          (c.gives_join.ensures.both _ _ _ _ _ c.put_line-last.ensures.text c.loop-line.invariant.gave);
      last =
          c.put_line-last.ensures.after ∙ ap₂ rendition_after_line c.loop-line.invariant.last c.sheet_row.ensures
          ∙ sym (rendition_after_lines_more no_rendition rows line c.loop-line.auto.line within) ∙ ap (λ n. rendition_after_lines no_rendition (take n rows)) same;
    }

pub returns : goal.returns
returns g c =
    let rows = sheet_rows c.args.alternate c.args.screen.now.picture in
    let all : length rows ≤ c.loop-line.line - 1 =
    omega (arith, rows_long c.args.alternate c.args.screen.now.picture c.cursor-cursor.ensures.sound, c.lines-line-end.ensures.value, c.loop-line-test.false) in
    subst (Gave g.W.Write.contents c.args.writer.now c.loop-line.writer) (all_lines_text no_rendition rows (c.loop-line.line - 1) all)
    c.loop-line.invariant.gave
