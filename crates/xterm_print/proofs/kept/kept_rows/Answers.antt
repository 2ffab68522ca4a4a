use Rattle.std.proofs.Common.{◌≡◌, ◌+◌, ◌-◌, sym, subst, arith}
use Rattle.sheet.specs.Grid.{row_at}
use Rattle.xterm_print.specs.Kept.{FollowAll, Follows}
use Rattle.xterm_print.proofs.KeptLemmas.{follow_more, follow_none, follows_itself}
use Rattle.xterm_print.proofs.kept.kept_rows.Goals as goal

pub loop-line-init : goal.loop-line-init
loop-line-init c = follow_none c.args.screen.now.picture.columns c.in_ok-rows.rows.items c.args.screen.now.picture.rows c.in_ok-rows.ensures.items

pub loop-line-preserved : goal.loop-line-preserved
loop-line-preserved c =
    let line = c.loop-line.line in
    let rows = c.args.screen.now.picture.rows in
    let columns = c.args.screen.now.picture.columns in
    let n = line - 1 in
    let at : line ≡ n + 1 = omega arith in
    let next : n + 1 ≡ line + 1 - 1 = omega arith in
    let row = c.in_ok-of.field-0 in
    let same : Follows columns row (row_at rows (n + 1)) =
    subst (λ m. Follows columns row (row_at rows m)) at
    (subst (λ r. Follows columns row r) c.row.ensures.value
    (subst (λ w. Follows w row c.row.result.now) c.row.ensures.columns (follows_itself row c.row.result.now c.in_ok-of.ensures))) in
    subst (λ m. FollowAll m columns c.push.new.self.items rows) next
    (subst (λ l. FollowAll (n + 1) columns l rows) (sym c.in_ok-push.ensures.items)
    (follow_more n columns c.loop-line.rows.items rows row c.loop-line.invariant same))

pub returns : goal.returns
returns c =
    let all : c.loop-line.line - 1 ≡ c.args.screen.now.picture.lines = omega (arith, c.lines-line-end.ensures.value, c.loop-line-test.false) in
    subst (λ m. FollowAll m c.args.screen.now.picture.columns c.loop-line.rows.items c.args.screen.now.picture.rows) all c.loop-line.invariant
