use Rattle.std.proofs.Common.{◌≡◌, ◌≢◌, ◌+◌, ◌-◌, ◌≤◌, ◌∙◌, Bool, ap, ap₂, arith, get_or, length, not, sym, true}
use Rattle.std.specs.Prelude.{◌&&◌, ◌==◌}
use Rattle.std.proofs.lemmas.Bool.{false≢true}
use Rattle.std.proofs.lemmas.Bool.Decides.{Decides-eqb}
use Rattle.sheet.specs.Grid.{AreTold, origin_of, row_at}
use Rattle.xterm_print.proofs.KeptLemmas.{row_read}
use Rattle.xterm_page.specs.Same.{row_number, same_row}
use Rattle.xterm_page.proofs.EqualLemmas.{other_numbers}
use Rattle.xterm_page.proofs.kept.has_come.Goals as goal

pub returns : goal.returns
returns c =
    let rows = c.args.rows.now in
    let guess = c.args.guess in
    let line = c.args.line in
    let after = c.args.screen.now.picture.rows in
    let now = row_at after line in
    let row = c.index-rows-guess.result in
    let other = c.index-rows-line.result in
    let there : guess + 1 - 1 ≡ guess = omega arith in
    let within : guess + 1 ≤ length rows = omega (arith, c.if-rows-guess.false) in
    let read = row_read rows (guess + 1) row (omega arith) within ∙ ap (λ n. get_or rows n row) there ∙ sym c.index-rows-guess.is in
    let own = row_read rows line other c.requires.low (omega (arith, c.requires.high, c.requires.rows)) ∙ sym c.index-rows-line.is in
    let origin : origin_of c.args.screen.now.origins line ≡ guess + 1 = omega (arith, c.origin.ensures, c.if-origin-guess.false) in
    let same : AreTold rows c.args.screen.now.origins after → now ≡ row_at rows (guess + 1) = λ told.
    told line (omega (arith, origin)) ∙ ap (row_at rows) origin in
    let was_number = c.was.inside.number in
    let own_number = c.own.inside.number in
    let is_apart : not (was_number == own_number) ≡ true → was_number ≢ own_number = λ is e.
    false≢true (sym (ap not ((Decides-eqb was_number own_number).1 e)) ∙ is) in
    record {
      within = λ _. omega (arith, c.if-rows-guess.false);
      same = λ told _. same told;
      renewed = λ told is.
          let equal : row ≡ now = sym (same told ∙ read) in
          let apart : row_number other ≢ row_number now = λ e.
          is_apart is (c.was.invariant.number ∙ ap row_number (c.was.view_is ∙ equal) ∙ sym e ∙ ap row_number (sym c.own.view_is) ∙ sym c.own.invariant.number) in
          ap₂ (λ (a b : Bool). a && not b) c.requires.touched (ap (λ r. same_row r now) own ∙ other_numbers other now apart);
    }
