use Rattle.std.proofs.Common.{◌≡◌, ◌+◌, ◌-◌, arith}
use Rattle.vt_screen.specs.Cells.{row_at}
use Rattle.screen_rows.specs.RowText.{printed_line}
use Rattle.screen_print.proofs.PlainLemmas.{all_lines, first_lines_more}
use Rattle.screen_print.proofs.plain_print.put_lines.Goals as goal

pub loop-line-preserved : goal.loop-line-preserved
loop-line-preserved g c =
    let p = c.args.screen.now.picture in
    let line = c.loop-line.line in
    let text : c.as_bytes.result.now ≡ printed_line p.wide (row_at p.rows line) = cc in
    let same : line ≡ line + 1 - 1 = omega arith in
    rw (← same, first_lines_more p line c.screens_are_sound.ensures.rows (omega arith) (omega arith), ← text)
    (c.gives_join.ensures.both _ _ _ _ _ c.give.ensures c.loop-line.invariant)

pub returns : goal.returns
returns g c =
    let p = c.args.screen.now.picture in
    let last : c.loop-line.line - 1 ≡ 24 = omega arith in
    rw (← all_lines p c.screens_are_sound.ensures.rows, ← last) c.loop-line.invariant
