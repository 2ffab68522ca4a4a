use Rattle.std.proofs.Common.{◌≡◌, ◌-◌, ◌∙◌, ap, refl, subst, sym}
use Rattle.std.specs.Prelude.{if◌then◌else◌}
use Rattle.xterm_screen.specs.Picture.{Picture, Sound}
use Rattle.xterm_term.specs.Console.{Console}
use Rattle.xterm_term.specs.Seen.{Shows}
use Rattle.xterm_term.specs.Term.{Term}
use Rattle.sheet.specs.Grid.{row_at}
use Rattle.xterm_print.specs.FindRows.{heeds_next}
use Rattle.xterm_print.proofs.WithinLemmas.{within_foretold}
use Rattle.xterm_print.proofs.within.moved_within.Goals as goal

-- the screen's picture is the terminal's
shown : (c : goal.After-columns) (x : Term) → Shows c.args.terminal.now x → c.screen-screen.result.now.picture ≡ x.console.picture
shown c x shows = c.screen-screen.ensures.value ∙ ap (λ (s : Console). s.picture) (sym shows.console)

pub returns-clause-moves : goal.returns-clause-moves
returns-clause-moves c = λ text letters x shows.
    let here = shown c x shows in
    let moved = c.in_ok-moved.moved in
    within_foretold x text c.args.bytes.now letters _ moved.top moved.bottom (subst Sound here c.cursor-cursor.ensures.sound)
    c.saturating_sub-from.ensures refl (c.columns.ensures.value ∙ ap (λ (p : Picture). p.columns) here) c.in_ok-moved.ensures.within
    (c.in_ok-moved.ensures.moves x shows)
    (ap (λ (p : Picture). heeds_next (row_at p.rows (moved.top - 1))) (sym here)
    ∙ ap (λ n. heeds_next (row_at c.screen-screen.result.now.picture.rows n)) (sym c.saturating_sub-from.ensures)
    ∙ sym c.line_heeds.ensures ∙ c.if-line_heeds.false)
    (ap (λ (p : Picture). heeds_next (row_at p.rows (if moved.down then moved.bottom - 1 else moved.bottom))) (sym here)
    ∙ ap (λ n. heeds_next (row_at c.screen-screen.result.now.picture.rows n)) (sym c.last_above.ensures)
    ∙ sym c.line_heeds-2.ensures ∙ c.if-line_heeds-2.false)
