use Rattle.std.proofs.Common.{◌++◌, ◌∷◌, [], arith, drop}
use Rattle.standings.specs.Rows.{empty_row}
use Rattle.standings.proofs.MovedLemmas.{came_in, standing_below}
use Rattle.standings.proofs.left.Standing.move_up.Goals as goal

pub returns-then-may_come_below-clause-places : goal.returns-then-may_come_below-clause-places
returns-then-may_come_below-clause-places c = λ some was.
    let text = c.args.text.now in
    let rows = c.args.self.now.rows.items in
    let before = drop 1 rows ++ empty_row ∷ [] in
    c.in_ok-move_up_and_look.ensures.places before (came_in c.args.columns c.len-count.result rows some (omega (arith, c.len-count.ensures, c.args.self.now.rows.ok.0)))
    (standing_below text (drop 1 rows)) was
