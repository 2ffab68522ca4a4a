use Rattle.std.proofs.Common.{◌≡◌, ◌-◌, ◌∙◌, ap, arith, cond, drop, length, refl, subst, sym}
use Rattle.std.proofs.lemmas.List.{take_at}
use Rattle.standings.specs.Moved.{region_down, region_up}
use Rattle.standings.specs.Near.{IsClear}
use Rattle.standings.specs.Standing.{standing}
use Rattle.standings.proofs.left.Standing.move_within.Goals as goal
use Rattle.standings.proofs.left.Standing.move_within.Goals.{then-down, else-down}

pub returns-clause-places : goal.returns-clause-places
returns-clause-places c = λ some within was.
    let text = c.args.text.now in
    let rows = c.args.self.now.rows.items in
    let from = c.args.from in
    let to = c.args.to in
    let columns = c.args.columns in
    let down = c.args.down in
    let new = c.move_rows_within.new.rows in
    let end : c.if-down.end ≡ cond down (to - 1) to = elim c.if-down.branch [
      | then-down w ↦ rw (w.end-is, w.if-down.true) refl
      | else-down w ↦ rw (w.end-is, w.if-down.false) refl
    ] in
    let seen = c.as_slice-rows.ensures.value in
    let clear = subst (λ l. IsClear l from 0 text) seen (c.may_go_on.ensures c.if-may_go_on.false) in
    let ends = subst (λ n. IsClear rows n 0 text) end (subst (λ l. IsClear l c.if-down.end 0 text) seen (c.may_go_on-else-may_go_on.ensures c.if-may_go_on-2.false)) in
    let moved : new ≡ cond down (region_down from to columns rows) (region_up from to columns rows) =
    c.in_ok-move_rows_within.ensures.moved ∙ ap (λ l. cond down (region_down from to columns l) (region_up from to columns l)) c.as_mut_slice.ensures.value in
    let many : length new ≡ c.args.self.now.rows.len = omega (arith, c.move_rows_within.auto.rows, c.as_mut_slice.ensures.len, c.args.self.now.rows.ok.0) in
    c.move_places_within.ensures text rows columns (c.may_come_below.ensures.ink c.if-may_come_below.false) (omega (arith, c.len.ensures, c.args.self.now.rows.ok.0)) within clear ends was
    ∙ ap (standing text) (sym moved ∙ sym (take_at new (drop (length new) rows) c.args.self.now.rows.len many))
