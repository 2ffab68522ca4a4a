use Rattle.std.proofs.Common.{◌≡◌, ◌≢◌, ◌+◌, ◌-◌, ◌≤◌, ◌∙◌, Bool, ap, ap₂, arith, get_or, length, not, sym, true}
use Rattle.std.specs.Prelude.{◌&&◌}
use Rattle.sheet.specs.Grid.{row_at}
use Rattle.xterm_print.proofs.KeptLemmas.{row_read}
use Rattle.xterm_page.specs.Same.{row_number, same_row}
use Rattle.xterm_page.proofs.EqualLemmas.{other_numbers, rows_equal}
use Rattle.xterm_page.proofs.kept.has_moved.Goals as goal

pub returns-then-was-own : goal.returns-then-was-own
returns-then-was-own c =
    let rows = c.args.rows.now in
    let guess = c.args.guess in
    let line = c.args.line in
    let now = row_at c.args.screen.now.picture.rows line in
    let row = c.index-rows-guess.result in
    let other = c.index-rows-line.result in
    let there : guess + 1 - 1 ≡ guess = omega arith in
    let within : guess + 1 ≤ length rows = omega (arith, c.if-rows-guess.false) in
    let read = row_read rows (guess + 1) row (omega arith) within ∙ ap (λ n. get_or rows n row) there ∙ sym c.index-rows-guess.is in
    let own = row_read rows line other c.requires.low (omega (arith, c.requires.high, c.requires.rows)) ∙ sym c.index-rows-line.is in
    let told : c.is_same.result ≡ true → same_row row now ≡ true = λ is. ap (same_row row) (sym c.row.ensures.value) ∙ sym c.is_same.ensures ∙ is in
    record {
      within = λ _. omega (arith, c.if-rows-guess.false);
      same = λ is. ap (λ r. same_row r now) read ∙ told is;
      renewed = λ is.
          let equal : row ≡ now = rows_equal row now (told is) in
          let apart : row_number other ≢ row_number now = λ e.
          c.if-was-own.true (c.was.invariant.number ∙ ap row_number (c.was.view_is ∙ equal) ∙ sym e ∙ ap row_number (sym c.own.view_is) ∙ sym c.own.invariant.number) in
          ap₂ (λ (a b : Bool). a && not b) c.requires.touched (ap (λ r. same_row r now) own ∙ other_numbers other now apart);
    }
