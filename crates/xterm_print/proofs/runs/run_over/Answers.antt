use Rattle.std.proofs.Common.{◌≡◌, ◌-◌, ◌≤◌, ap, arith, drop, get_or, length, subst, sym, ◌∙◌}
use Rattle.std.proofs.lemmas.List.{length-drop, length-take}
use Rattle.sheet.specs.Cells.{Cell}
use Rattle.sheet.specs.Grid.{row_at}
use Rattle.xterm_term.specs.Console.{Console}
use Rattle.xterm_print.specs.Pieces.{AreApart, IsPlain}
use Rattle.xterm_term.specs.Term.{Term}
use Rattle.xterm_term.specs.Seen.{Shows}
use Rattle.xterm_print.proofs.PieceLemmas.{cell_within}
use Rattle.xterm_print.proofs.RunLemmas.{IsRun, run_stays, run_written}
use Rattle.xterm_print.proofs.runs.run_over.Goals as goal

-- the bytes are a run
is_run : (c : goal.After-run_on) → IsRun c.args.set c.screen-screen.result.now.picture c.row-cells.result.now (c.cursor-line.result.1 - 1) c.args.text.now c.args.bytes.now c.run_on.new.letters.items c.run_on.result
is_run c =
    let p = c.screen-screen.result.now.picture in
    let row = c.row-cells.result.now in
    let before = c.cursor-line.result.1 - 1 in
    let m = c.min-room.result - before in
    let letters = c.run_on.new.letters.items in
    let over = c.run_on.ensures.over in
    let low : length letters ≤ m = omega (arith, over.room, length-take m (drop before row)) in
    record {
      is = c.row-cells.ensures.value ∙ ap (row_at p.rows) c.cursor-line.ensures.line;
      at = ap (λ n. n - 1) c.cursor-line.ensures.column;
      sound = c.cursor-line.ensures.sound;
      whole = c.row-cells.ensures.whole;
      columns = c.row-cells.ensures.columns;
      within = c.run_on.ensures.within;
      styled = c.run_on.ensures.styled;
      letters_are = c.run_on.ensures.letters;
      over = record {
        room = omega (arith, over.room, length-take m (drop before row), length-drop before row, c.min-room.ensures, c.if-end-from.false, c.cursor-line.ensures.sound.columns_low, c.row-cells.ensures.columns);
        plain = λ k lt. subst IsPlain (cell_within row before m k (omega (arith, lt, low))) (over.plain k lt);
      };
      apart = λ k some lt. subst (λ (cell : Cell). AreApart c.args.text.now (get_or letters (k - 1) 0) cell.character) (cell_within row before m k (omega (arith, lt, low))) (over.apart k some lt);
    }

picture : (c : goal.After-run_on) (x : Term) → Shows c.args.terminal.now x → c.screen-screen.result.now.picture ≡ x.console.picture
picture c x shows = c.screen-screen.ensures.value ∙ sym (ap (λ (s : Console). s.picture) shows.console)

pub returns-clause-stays : goal.returns-clause-stays
returns-clause-stays c = λ x shows.
    run_stays c.args.set x c.screen-screen.result.now.picture c.row-cells.result.now (c.cursor-line.result.1 - 1) c.args.text.now c.args.bytes.now c.run_on.new.letters.items c.run_on.result
    (picture c x shows) (c.requires x shows) (is_run c)

pub returns-clause-written : goal.returns-clause-written
returns-clause-written c = λ _ x shows.
    run_written c.args.set x c.screen-screen.result.now.picture c.row-cells.result.now (c.cursor-line.result.1 - 1) c.args.text.now c.args.bytes.now c.run_on.new.letters.items c.run_on.result
    (picture c x shows) (c.requires x shows) (is_run c)
