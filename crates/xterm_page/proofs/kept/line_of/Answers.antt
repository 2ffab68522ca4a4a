use Rattle.std.proofs.Common.{◌≡◌, ◌+◌, ◌-◌, ◌≤◌, length, true, get_or, ap, sym, ◌∙◌, arith, inl, inr}
use Rattle.std.proofs.lemmas.Bool.{cases_eq}
use Rattle.sheet.specs.Grid.{row_at}
use Rattle.screen_page.proofs.PageLemmas.{first_found, none_found}
use Rattle.xterm_print.proofs.KeptLemmas.{row_read}
use Rattle.xterm_page.specs.Same.{same_row}
use Rattle.xterm_page.proofs.kept.line_of.Goals as goal

pub loop-at-preserved : goal.loop-at-preserved
loop-at-preserved c =
    let rows = c.args.rows.now in
    let at = c.loop-at.at in
    λ k low high. elim (cases_eq k (at + 1)) [
      | inl e ↦
          let within : k ≤ length rows = omega (arith, e, c.loop-at-test.true, c.requires.lines) in
          let there : k - 1 ≡ at = omega arith in
          ap (λ r. same_row r c.args.cells.now) (row_read rows k c.index-rows-at.result low within ∙ ap (λ n. get_or rows n c.index-rows-at.result) there ∙ sym c.index-rows-at.is)
          ∙ sym c.is_same_by.ensures ∙ c.if-is_same_by.false
      | inr ne ↦ c.loop-at.invariant k low (omega arith)
    ]

pub returns-then-is_same_by : goal.returns-then-is_same_by
returns-then-is_same_by c =
    let rows = c.args.rows.now in
    let row = c.args.cells.now in
    let at = c.loop-at.at in
    let there : at + 1 - 1 ≡ at = omega arith in
    let within : at + 1 ≤ length rows = omega (arith, c.loop-at-test.true, c.requires.lines) in
    let same : same_row (row_at rows (at + 1)) row ≡ true =
    ap (λ r. same_row r row) (row_read rows (at + 1) c.index-rows-at.result (omega arith) within ∙ ap (λ n. get_or rows n c.index-rows-at.result) there ∙ sym c.index-rows-at.is)
    ∙ sym c.is_same_by.ensures ∙ c.if-is_same_by.true in
    sym (first_found (λ line. same_row (row_at rows line) row) 1 c.args.lines (at + 1)
    (λ i low high. c.loop-at.invariant i low (omega arith)) (omega arith) (omega arith) same)

pub returns : goal.returns
returns c =
    let rows = c.args.rows.now in
    sym (none_found (λ line. same_row (row_at rows line) c.args.cells.now) 1 c.args.lines
    (λ i low high. c.loop-at.invariant i low (omega (arith, high, c.loop-at-test.false))))
