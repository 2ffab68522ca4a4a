use Rattle.std.proofs.Common.{sym, subst}
use Rattle.vt_screen.specs.Cells.{row_at}
use Rattle.vt_term.specs.Console.{Console, IsSafe}
use Rattle.screen_print.specs.Skim.{RowLacks, ScreenLacks}
use Rattle.screen_print.proofs.SkimEffects.{checked_lacks, plain_lacks}
use Rattle.screen_print.proofs.skim.steps.Goals as goal

pub returns-then-not-is_marked-clause-lacks : goal.returns-then-not-is_marked-clause-lacks
returns-then-not-is_marked-clause-lacks c = λ _.
    let key = c.args.key.now.chars.now in
    let x = c.screen-screen.ensures.proper.term.0 in
    let shows = c.screen-screen.ensures.proper.term.1 in
    subst (λ (s : Console). ScreenLacks key s.picture) (c.step.ensures.shows x shows).console
    (plain_lacks key c.requires.keyed.proper x c.args.byte (subst IsSafe (sym shows.console) c.screen-screen.ensures.proper.safe)
    (c.is_calm-calm.ensures c.if-not-calm.false x shows) (subst (λ (s : Console). ScreenLacks key s.picture) (sym shows.console) c.requires.lacks)
    (c.is_marked.ensures c.if-not-is_marked.true))

pub returns-else-not-is_marked-clause-lacks : goal.returns-else-not-is_marked-clause-lacks
returns-else-not-is_marked-clause-lacks c = λ lacked.
    let key = c.args.key.now.chars.now in
    let x = c.screen-screen.ensures.proper.term.0 in
    let shows = c.screen-screen.ensures.proper.term.1 in
    let after = (c.step.ensures.shows x shows).console in
    subst (λ (s : Console). ScreenLacks key s.picture) after
    (checked_lacks key c.requires.keyed.proper x c.args.byte (subst IsSafe (sym shows.console) c.screen-screen.ensures.proper.safe)
    (c.is_calm-calm.ensures c.if-not-calm.false x shows) (subst (λ (s : Console). ScreenLacks key s.picture) (sym shows.console) c.requires.lacks)
    (subst (λ (s : Console). RowLacks key s.picture.wide (row_at s.picture.rows s.picture.line)) (sym after) (c.lacked_at_cursor.ensures lacked)))
