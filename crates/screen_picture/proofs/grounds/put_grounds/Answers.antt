use Rattle.std.proofs.Common.{◌++◌, List, ℕ, codes}
use Rattle.screen_picture.specs.Grounds.{by_line, grounds_text, row_grounds}
use Rattle.screen_picture.proofs.grounds.put_grounds.Goals as goal

pub returns : goal.returns
unfolding grounds_text
returns g c =
    let opens : List ℕ = codes "<path d=\"" in
    let closes : List ℕ = codes "\"/>\n" in
    let grounds = by_line (row_grounds c.args.screen.now.picture.rows) in
    c.gives_join.ensures.both _ _ _ (opens ++ grounds) closes c.give-2.ensures
    (c.gives_join.ensures.both _ _ _ opens grounds c.put_lines.ensures c.give.ensures)
