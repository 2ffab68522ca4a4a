use Rattle.std.proofs.Common.{arith}
use Rattle.xterm_print.proofs.TurnedLemmas.{turned_before, turned_behind, turned_over, turned_up, turned_whole}
use Rattle.xterm_page.proofs.CaughtLemmas.{about_by_index, about_whole, turning}
use Rattle.xterm_page.proofs.caught.turn_rows.Goals as goal

pub returns : goal.returns
returns c =
    let rows = c.args.rows.now in
    let part = c.turn_about.new.rows in
    let from = c.args.from in
    let to = c.args.to in
    let shift = c.args.shift in
    let low = c.requires.low in
    let apart = c.requires.apart in
    let high = c.requires.high in
    let whole = about_whole _ part shift c.turn_about.ensures in
    let long = turning rows from to shift low apart high in
    let turned = about_by_index _ part shift c.turn_about.ensures (omega (arith, long, apart, low)) in
    record {
      whole = turned_whole rows part from to shift low apart high whole turned;
      before = turned_before rows part from to shift low apart high whole turned;
      moved = turned_up rows part from to shift low apart high whole turned;
      turned = turned_over rows part from to shift low apart high whole turned;
      behind = turned_behind rows part from to shift low apart high whole turned;
    }
