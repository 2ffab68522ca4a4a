use Rattle.std.proofs.Common.{All, ◌≤◌, sym, subst}
use Rattle.screen_cast.proofs.CastLemmas.{lines_within}
use Rattle.screen_cast.proofs.events.drawn_lines.Goals as goal

pub returns-else-is_all_drawn-clause-lines : goal.returns-else-is_all_drawn-clause-lines
returns-else-is_all_drawn-clause-lines c =
    subst (λ l. All (λ line. (1 ≤ line) × (line ≤ 24)) l) (sym c.requires)
    (lines_within c.args.before.now.still.rows c.args.after.now.console.picture.rows)
