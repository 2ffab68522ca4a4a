use Rattle.std.proofs.Common.{◌≡◌, ◌≢◌, ◌+◌, ◌-◌, ◌%◌, ◌<◌, ◌≤◌, ◌∙◌, ℕ, Bool, Some, ap, ap₂, arith, false, get_or, length, not, sym}
use Rattle.std.specs.Prelude.{◌&&◌}
use Rattle.std.proofs.lemmas.Bool.{not-true}
use Rattle.sheet.specs.Grid.{AreTold, origin_of, row_at}
use Rattle.xterm_print.proofs.KeptLemmas.{row_read}
use Rattle.xterm_page.specs.Entries.{line_of}
use Rattle.xterm_page.specs.Same.{row_number, same_row}
use Rattle.xterm_page.proofs.EqualLemmas.{other_numbers}
use Rattle.xterm_page.proofs.MarkLemmas.{first_by_mark}
use Rattle.xterm_page.proofs.RenewedLemmas.{other_is}
use Rattle.xterm_page.proofs.SameLemmas.{row_itself}
use Rattle.xterm_page.proofs.kept.comes_first.Goals as goal

pub returns-then-was-own : goal.returns-then-was-own
returns-then-was-own c =
    let rows = c.args.rows.now in
    let line = c.args.line in
    let shift = c.args.shift in
    let after = c.args.screen.now.picture.rows in
    let now = row_at after line in
    let row = c.index-rows-place.result in
    let other = c.index-rows-place-2.result in
    let number = c.was.inside.number in
    let place = line - 1 + shift in
    let fits : line + shift ≤ length rows = omega (arith, c.requires.high, c.requires.rows) in
    let within : place < length rows = omega (arith, fits, c.requires.low) in
    let next : place + 1 ≡ line + shift = omega (arith, c.requires.low) in
    let there : place + 1 - 1 ≡ place = omega arith in
    let read = row_read rows (place + 1) row (omega arith) (omega (arith, within)) ∙ ap (λ n. get_or rows n row) there ∙ sym c.index-rows-place.is in
    let own = row_read rows line other c.requires.low (omega (arith, fits)) ∙ sym c.index-rows-place-2.is in
    let origin : origin_of c.args.screen.now.origins line ≡ place + 1 = omega (arith, c.origin.ensures, c.if-origin-place.false, c.requires.low) in
    let same : AreTold rows c.args.screen.now.origins after → now ≡ row_at rows (place + 1) = λ told.
    told line (omega (arith, origin)) ∙ ap (row_at rows) origin in
    let numbered : AreTold rows c.args.screen.now.origins after → number ≡ row_number now = λ told.
    c.was.invariant.number ∙ ap row_number (c.was.view_is ∙ sym (same told ∙ read)) in
    record {
      renewed = λ told _.
          let apart : row_number other ≢ row_number now = λ e.
          c.if-was-own.true (numbered told ∙ sym e ∙ ap row_number (sym c.own.view_is) ∙ sym c.own.invariant.number) in
          let touched = ap not (other_is (origin_of c.args.screen.now.origins line) line (omega (arith, origin, next, c.requires.some))) in
          ap₂ (λ (a b : Bool). a && not b) touched (ap (λ r. same_row r now) own ∙ other_numbers other now apart);
      was = λ told is.
          let none : get_or c.args.marks.now (number % 2048) false ≡ false =
          ap (λ n. get_or c.args.marks.now n false) (sym c.mark_of.ensures.value) ∙ not-true (get_or c.args.marks.now c.mark_of.result false) is in
          ap (λ n. line_of n rows now) (sym c.requires.rows)
          ∙ first_by_mark rows now place place number c.args.marks.now within (ap (λ r. same_row r now) (sym (same told)) ∙ row_itself now) (numbered told) c.requires.marked (omega arith) none
          ∙ ap (λ (n : ℕ). Some n) next;
    }
