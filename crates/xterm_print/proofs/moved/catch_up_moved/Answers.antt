use Rattle.std.proofs.Common.{◌+◌, ◌-◌, ◌≤◌, ◌∙◌, ap, arith, inl, inr, length, not, subst, sym}
use Rattle.std.proofs.lemmas.Bool.{cases_lt}
use Rattle.sheet.specs.Grid.{row_at}
use Rattle.xterm_print.specs.ChangeLines.{is_changed, same_row}
use Rattle.xterm_print.specs.Kept.{Follows}
use Rattle.xterm_print.proofs.TurnedLemmas.{moved_changed, other_changed, row_moved}
use Rattle.xterm_print.proofs.moved.catch_up_moved.Goals as goal

pub returns-clause-before : goal.returns-clause-before
returns-clause-before c = λ k here below.
    c.catch_up_lines.ensures.before k here (omega (arith, below, c.moved_end-end.ensures.some)) ∙ c.move_rows.ensures.before k here below
    ∙ ap (λ l. row_at l k) c.push_moved-first.ensures.stay

pub returns-clause-known : goal.returns-clause-known
returns-clause-known c =
    c.moved.ensures c.args.rows.now c.catch_up_lines.new.rows
    (λ k from low below. c.push_moved-first.ensures.differ k from below)
    (λ k low below. c.catch_up_lines.ensures.before k (omega (arith, low, c.requires.low)) below ∙ c.move_rows.ensures.moved k low below
    ∙ ap (λ l. row_at l (k + c.args.shift)) c.push_moved-first.ensures.stay)

pub returns-clause-behind : goal.returns-clause-behind
returns-clause-behind c = λ k above. c.catch_up_lines.ensures.behind k above ∙ c.move_rows.ensures.behind k above
    ∙ ap (λ l. row_at l k) c.push_moved-first.ensures.stay

pub returns-clause-changed : goal.returns-clause-changed
returns-clause-changed c = λ before marked follow so_far.
    let after = c.args.screen.now.picture.rows in
    let told = marked.move (c.requires.differ before (follow c.args.line (omega arith) (omega (arith, c.moved_end-end.ensures.some))) so_far) in
    let origins = c.args.screen.now.origins in
    let columns = c.args.screen.now.picture.columns in
    let kept = c.args.rows.now in
    let end = c.moved_end-end.result in
    let shift = c.args.shift in
    let p = is_changed before after in
    c.push_renewed.ensures.changed p (λ k low high. other_changed before after origins told kept columns k (follow k (omega (arith, low, c.moved_end-end.ensures.some)) high)
    ∙ ap (λ l. not (same_row (row_at l k) (row_at after k))) (sym c.push_moved-first.ensures.stay))
    (c.push_moved-first.ensures.changed p
    (λ k low high. moved_changed before after origins told kept columns k (follow k low (omega (arith, high))) shift (omega (arith, low, c.requires.low)) (c.moved_end-end.ensures.moved k low high)
    (follow (k + shift) (omega (arith, low)) (omega (arith, high))))
    so_far)

pub returns-clause-caught : goal.returns-clause-caught
returns-clause-caught c = λ before marked follow so_far k low high.
    let after = c.args.screen.now.picture.rows in
    let told = marked.move (c.requires.differ before (follow c.args.line (omega arith) (omega (arith, c.moved_end-end.ensures.some))) so_far) in
    let columns = c.args.screen.now.picture.columns in
    let end = c.moved_end-end.result in
    let shift = c.args.shift in
    let some = c.moved_end-end.ensures.some in
    let one = c.requires.low in
    elim (cases_lt k end) [
      | inl moved ↦
          let here : 1 ≤ k = omega (arith, low, one) in
          let row = c.catch_up_lines.ensures.before k here moved ∙ c.move_rows.ensures.moved k low moved
          ∙ ap (λ l. row_at l (k + shift)) c.push_moved-first.ensures.stay in
          subst (λ r. Follows columns r (row_at after k)) (sym row)
          (subst (Follows columns (row_at c.args.rows.now (k + shift))) (sym (row_moved before after c.args.screen.now.origins told k shift here (c.moved_end-end.ensures.moved k low moved)))
          (follow (k + shift) (omega (arith, low)) (omega (arith, moved))))
      | inr over ↦
          let was = c.move_rows.ensures.turned k over high ∙ ap (λ l. row_at l (k + c.args.line - end)) c.push_moved-first.ensures.stay in
          let wide = follow (k + c.args.line - end) (omega (arith, over, some)) (omega (arith, high, some, over)) in
          c.catch_up_lines.ensures.caught k over high (ap length was ∙ wide.columns)
    ]
