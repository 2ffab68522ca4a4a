use Rattle.std.proofs.Common.{◌≡◌, ◌-◌, ◌∙◌, ap, arith, cond, drop, length, not}
use Rattle.std.proofs.lemmas.List.{take_at}
use Rattle.standings.specs.Moved.{shifted_down, shifted_up}
use Rattle.standings.specs.Rows.{row_below}
use Rattle.standings.proofs.RegionLemmas.{moved_back}
use Rattle.standings.proofs.left.Standing.move_and_look.Goals as goal

pub returns-then-is_err-clause-refused_rows : goal.returns-then-is_err-clause-refused_rows
returns-then-is_err-clause-refused_rows c =
    let rows = c.args.self.now.rows.items in
    let from = c.args.span.from in
    let to = c.args.span.to in
    let down = c.args.down in
    let row = c.in_ok-row.row in
    let one = c.shift_within-out.new.rows in
    let two = c.shift_within.new.rows in
    let first : one ≡ cond down (shifted_down from to row rows) (shifted_up from to row rows) =
    c.shift_within-out.ensures.rows ∙ ap (λ l. cond down (shifted_down from to row l) (shifted_up from to row l)) c.as_mut_slice.ensures.value in
    let out : c.shift_within-out.result ≡ row_below rows (cond down (to - 1) from) =
    c.shift_within-out.ensures.out ∙ ap (λ l. row_below l (cond down (to - 1) from)) c.as_mut_slice.ensures.value in
    let many : length one ≡ c.args.self.now.rows.len = omega (arith, c.shift_within-out.auto.rows, c.as_mut_slice.ensures.len, c.args.self.now.rows.ok.0) in
    let there : c.as_mut_slice-then-is_err.result.now ≡ one =
    c.as_mut_slice-then-is_err.ensures.value ∙ c.look_again.ensures.rows ∙ take_at one (drop (length one) rows) c.args.self.now.rows.len many in
    let back : two ≡ rows =
    moved_back from to rows one two row c.shift_within-out.result down c.requires.some c.requires.within first out
    (c.shift_within.ensures.rows
    ∙ ap (λ l. cond (not down) (shifted_down from to c.shift_within-out.result l) (shifted_up from to c.shift_within-out.result l)) there) in
    let many' : length two ≡ c.look_again.new.self.rows.len =
    omega (arith, c.shift_within.auto.rows, c.as_mut_slice-then-is_err.ensures.len) in
    take_at two (drop (length two) c.look_again.new.self.rows.items) c.look_again.new.self.rows.len many' ∙ back
