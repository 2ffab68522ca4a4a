use Rattle.std.proofs.Common.{◌≡◌, ℕ, ◌+◌, ◌-◌, ◌++◌, ◌∷◌, [], ◌∙◌, ap, arith, refl, sym}
use Rattle.sheet.specs.Grid.{row_at}
use Rattle.sheet.specs.Table.{table}
use Rattle.standings.specs.Rows.{Row}
use Rattle.xterm_print.specs.FindRows.{row_read}
use Rattle.xterm_print.proofs.FindRowLemmas.{table_more, table_none}
use Rattle.xterm_print.proofs.find_rows.rows_read.Goals as goal

pub loop-line-init : goal.loop-line-init
loop-line-init c =
    let rows = c.args.screen.now.picture.rows in
    record { read = c.new-rows.ensures.items ∙ sym (table_none (λ line. row_read (row_at rows line) (row_at rows (line + 1))) 0 refl) }

pub row_read-requires-clause-some : goal.row_read-requires-clause-some
row_read-requires-clause-some c = omega (arith, c.row.ensures.columns, c.cursor-cursor.ensures.sound.columns_low)

pub row_read-requires-clause-few : goal.row_read-requires-clause-few
row_read-requires-clause-few c = omega (arith, c.row.ensures.columns, c.cursor-cursor.ensures.sound.columns_high)

pub loop-line-preserved : goal.loop-line-preserved
loop-line-preserved c =
    let rows = c.args.screen.now.picture.rows in
    let line = c.loop-line.line in
    let f : ℕ → Row = λ line. row_read (row_at rows line) (row_at rows (line + 1)) in
    let at : line ≡ line - 1 + 1 = omega arith in
    let next : line ≡ line + 1 - 1 = omega arith in
    record {
      read = c.in_ok-push.ensures.items
          ∙ ap (λ l. l ++ c.in_ok-row_read.field-0 ∷ []) c.loop-line.invariant.read
          ∙ ap (λ r. table (line - 1) f ++ r ∷ []) (c.in_ok-row_read.ensures ∙ ap (λ cells. row_read cells c.next_row.result.now) c.row.ensures.value ∙ ap (row_read (row_at rows line)) c.next_row.ensures)
          ∙ sym (table_more f (line - 1) line at) ∙ ap (λ n. table n f) next;
    }
