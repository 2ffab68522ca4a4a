use Rattle.std.proofs.Common.{◌≡◌, ◌≢◌, ◌+◌, ◌-◌, ◌<◌, ◌≤◌, ◌∙◌, ap, arith, get_or-set_other, get_or-set_same, inl, inr, length, set, subst, sym}
use Rattle.std.proofs.lemmas.Bool.{cases_eq, cases_lt}
use Rattle.std.proofs.lemmas.List.{length-set}
use Rattle.sheet.specs.Grid.{row_at}
use Rattle.standings.specs.declared.span.Span.{Span}
use Rattle.standings.specs.Rows.{empty_row, row_below}
use Rattle.standings.specs.Spans.{Stays}
use Rattle.standings.proofs.SpanLemmas.{same_rows, stays_all, stays_more, widened_end}
use Rattle.xterm_print.specs.FindRows.{row_read, rows_read}
use Rattle.xterm_print.proofs.FindRowLemmas.{count_read, read_at}
use Rattle.xterm_print.proofs.find_rows.read_lines.Goals as goal

pub returns-then-len-lines-clause-rows : goal.returns-then-len-lines-clause-rows
returns-then-len-lines-clause-rows c = λ before told long is.
    absurd (omega (arith, c.if-len-lines.true, c.len.ensures, c.args.rows.now.ok.0, c.lines.ensures.value, ap length is, count_read c.args.screen.now.picture.lines before))

pub loop-line-init : goal.loop-line-init
loop-line-init c = record {
  low = c.next_unlike-line.ensures.low;
  end = c.next_unlike-line.ensures.high;
  count = omega (arith, c.if-len-lines.false, c.len.ensures, c.lines.ensures.value);
  others = stays_all c.args.rows.now.items c.none-span.result;
  high = omega (arith, ap (λ (span : Span). span.to) c.none-span.ensures, c.next_unlike-line.ensures.low);
  read = λ before told long is k low high.
      let lines = c.args.screen.now.picture.lines in
      ap (λ l. row_below l (k - 1)) is ∙ read_at lines before k low (omega (arith, high, c.next_unlike-line.ensures.high))
      ∙ c.next_unlike-line.ensures.between before told long k low high;
}

pub loop-line-preserved : goal.loop-line-preserved
loop-line-preserved c =
    let kept = c.loop-line.invariant in
    let line = c.loop-line.line in
    let at = line - 1 in
    let row = c.read_again.new.row in
    let rows = c.loop-line.rows.items in
    let lines = c.args.screen.now.picture.lines in
    let now = c.args.screen.now.picture.rows in
    record {
      low = omega (arith, kept.low, c.next_unlike-line-in-loop-line.ensures.low);
      end = c.next_unlike-line-in-loop-line.ensures.high;
      count = length-set rows at row ∙ kept.count;
      others =
          subst (λ span. Stays span c.args.rows.now.items (set rows at row)) (sym c.widened-span.ensures)
          (stays_more c.loop-line.span at c.args.rows.now.items rows (set rows at row) kept.others (length-set rows at row)
          (λ k ne. get_or-set_other rows at k row empty_row ne));
      high =
          let last = widened_end c.loop-line.span at (omega (arith, kept.high)) in
          omega (arith, last, ap (λ (span : Span). span.to) c.widened-span.ensures, c.next_unlike-line-in-loop-line.ensures.low, kept.low);
      read = λ before told long is k low high.
          elim (cases_eq k line) [
            | inl e ↦
                let within : at < length rows = omega (arith, kept.count, kept.low, c.lines-in-loop-line.ensures.value, c.loop-line-test.true) in
                subst (λ m. row_below (set rows at row) (m - 1) ≡ row_read (row_at now m) (row_at now (m + 1))) (sym e)
                (get_or-set_same rows at row empty_row within
                ∙ c.in_ok-read_again.ensures ∙ ap (λ cells. row_read cells c.next_row.result.now) c.row.ensures.value ∙ ap (row_read (row_at now line)) c.next_row.ensures)
            | inr ne ↦
                let apart : k - 1 ≢ at = omega (arith, low, kept.low, ne) in
                get_or-set_other rows at (k - 1) row empty_row apart ∙ elim (cases_lt k line) [
                  | inl before_it ↦ kept.read before told long is k low before_it
                  | inr behind ↦
                      kept.others.below (k - 1) (omega (arith, kept.high, behind, ne)) ∙ ap (λ l. row_below l (k - 1)) is
                      ∙ read_at lines before k low (omega (arith, high, c.next_unlike-line-in-loop-line.ensures.high)) ∙ c.next_unlike-line-in-loop-line.ensures.between before told long k (omega (arith, behind, ne)) high
                ]
          ];
    }

pub returns-clause-rows : goal.returns-clause-rows
returns-clause-rows c = λ before told long is.
    let lines = c.args.screen.now.picture.lines in
    let rows = c.args.screen.now.picture.rows in
    let count = count_read lines rows in
    same_rows (rows_read lines rows) c.loop-line.rows.items (c.loop-line.invariant.count ∙ sym count) (λ k lt.
    let next : k + 1 - 1 ≡ k = omega arith in
    let within : k + 1 ≤ lines = omega (arith, count) in
    ap (row_below c.loop-line.rows.items) (sym next)
    ∙ c.loop-line.invariant.read before told long is (k + 1) (omega arith) (omega (arith, within, c.lines-in-loop-line.ensures.value, c.loop-line-test.false))
    ∙ sym (read_at lines rows (k + 1) (omega arith) within) ∙ ap (row_below (rows_read lines rows)) next)
