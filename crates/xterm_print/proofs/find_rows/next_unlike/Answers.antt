use Rattle.std.proofs.Common.{◌≡◌, ℕ, ◌+◌, ◌-◌, ◌≤◌, ◌∙◌, List, ap, arith, inl, inr, length, sym}
use Rattle.std.proofs.lemmas.Bool.{cases_lt}
use Rattle.sheet.specs.Cells.{Cell}
use Rattle.sheet.specs.Grid.{row_at}
use Rattle.xterm_print.specs.FindRows.{heeds_next, row_read}
use Rattle.xterm_print.proofs.FindRowLemmas.{no_row, read_alike}
use Rattle.xterm_print.proofs.find_rows.next_unlike.Goals as goal
use Rattle.xterm_print.proofs.find_rows.next_unlike.Goals.{else-line-touched-via-then-line-touched+then-touched-lines+else-heeds_next, else-line-touched-via-then-line-touched+else-touched-lines, else-line-touched-via-else-line-touched}

-- the row above the one that was touched
last_one : (c : goal.Joined-else-line-touched) (before : List (List Cell)) (k : ℕ) → length before ≡ c.args.screen.now.picture.lines → c.args.line ≤ k → k + 1 ≡ c.next_touched-touched.result
    → row_read (row_at c.args.screen.now.picture.rows k) (row_at before (k + 1)) ≡ row_read (row_at c.args.screen.now.picture.rows k) (row_at c.args.screen.now.picture.rows (k + 1))
last_one c before k long low is =
    let now = c.args.screen.now.picture.rows in
    elim c.else-line-touched.branch [
      | else-line-touched-via-then-line-touched+then-touched-lines+else-heeds_next w ↦
          let at : k ≡ c.next_touched-touched.result - 1 = omega (arith, is) in
          let row = ap (row_at now) at ∙ sym w.row.ensures.value in
          read_alike (row_at now k) (row_at before (k + 1)) (row_at now (k + 1)) (ap heeds_next row ∙ sym w.heeds_next.ensures ∙ w.if-heeds_next.false)
      | else-line-touched-via-then-line-touched+else-touched-lines w ↦
          let lines = c.args.screen.now.picture.lines in
          let past : lines ≤ k = omega (arith, is, w.if-touched-lines.false, w.lines.ensures.value) in
          ap (row_read (row_at now k)) (no_row before k (omega (arith, long, past)) ∙ sym (no_row now k (omega (arith, c.cursor-cursor.ensures.sound.rows, past))))
      | else-line-touched-via-else-line-touched w ↦ absurd (omega (arith, is, low, w.if-line-touched.false))
    ]

pub returns-clause-between : goal.returns-clause-between
returns-clause-between c = λ before told long k low lt.
    let now = c.args.screen.now.picture.rows in
    let between = c.next_touched-touched.ensures.between in
    ap (λ row. row_read row (row_at before (k + 1))) (sym (told.stay k (between k low lt))) ∙ elim (cases_lt (k + 1) c.next_touched-touched.result) [
      | inl more ↦ ap (row_read (row_at now k)) (sym (told.stay (k + 1) (between (k + 1) (omega (arith, low)) more)))
      | inr last ↦ last_one c before k long low (omega (arith, lt, last))
    ]
