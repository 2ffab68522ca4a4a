use Rattle.std.proofs.Common.{◌≡◌, ℕ, ◌+◌, ◌-◌, false, min, ap, subst, sym, ◌∙◌, arith, Bool, true}
use Rattle.std.proofs.lemmas.Bool.Decides.{nat_tests}
use Rattle.vt_screen.specs.Picture.{Sound, Picture}
use Rattle.vt_screen.specs.Scrolls.{lines_inserted, is_in_region, scrolled_down}
use Rattle.vt_screen.specs.Slots.{ScreenState, rows_of, line_above, slots_blanked, slots_lines_inserted}
use Rattle.vt_screen.specs.View.{picture_of, state_of}
use Rattle.vt_screen.proofs.Blanked.{Filled, slots_freed}
use Rattle.vt_screen.proofs.Scrolled.{region_moved, in_region, down_by}
use Rattle.vt_screen.proofs.Soundness.{sound_lines_inserted}
use Rattle.vt_screen.proofs.Told.{down_told}
use Rattle.vt_screen.specs.Moves.{moved_to_left}
use Rattle.std.specs.Prelude.{if◌then◌else◌}
use Rattle.vt_screen.proofs.screen.Screen.insert_lines.Goals as goal

-- how many lines move
few_move : (c : goal.After-self-then-self-2-1) → c.lines_left-count.result ≡ min c.args.n (c.self.inside.bottom + 1 - c.self.inside.line)
few_move c = c.lines_left-count.ensures ∙ ap (λ (s : ScreenState). min c.args.n (s.picture.bottom + 1 - s.picture.line)) (sym c.self.view_is)

are_inserted : (c : goal.After-self-then-self-2-1)
    → record (picture_of c.self.inside) { rows = rows_of c.fill_lines.new.self; column = 1; wrap = false }
    ≡ lines_inserted c.args.n (picture_of c.self.inside)
are_inserted c =
    let p = picture_of c.self.inside in
    let count = c.lines_left-count.result in
    region_moved p c.self.invariant (line_above count p.line p.bottom) _ _ _ p.line (p.line + count - 1 + 1) _ _
    c.if-self.true c.if-self-2.true c.turn_down.ensures.rows c.blank.ensures c.columns_of.ensures c.fill_lines.ensures.rows
    (down_by p.rows c.args.n count p.line p.bottom c.if-self-2.true (few_move c) _ (omega (arith, few_move c)))

pub invariant_of-self : goal.invariant_of-self
invariant_of-self c = subst Sound (sym (are_inserted c)) (sound_lines_inserted (picture_of c.self.inside) c.self.invariant c.args.n)

pub returns-then-self-2-clause-picture : goal.returns-then-self-2-clause-picture
returns-then-self-2-clause-picture c = are_inserted c ∙ ap (λ (s : ScreenState). lines_inserted c.args.n s.picture) c.self.view_is

-- the slots of the lines that left are blank
are_freed : (c : goal.After-self-then-self-2-1)
    → c.fill_lines.new.self.slots ≡ slots_lines_inserted c.args.n (picture_of c.self.inside) c.self.inside.grid.order c.self.inside.grid.slots
are_freed c =
    let p = picture_of c.self.inside in
    let count = c.lines_left-count.result in
    let few = few_move c in
    let source = line_above count p.line p.bottom in
    let line_low = c.self.invariant.line_low in
    let bottom_high = c.self.invariant.bottom_high in
    let filled : Filled p.wide c.self.inside.grid source p.line (p.bottom + 1 - count) count = record {
      sound = c.self.invariant.row;
      source_low = λ k low high. grind (arith, nat_tests);
      source_high = λ k low high. grind (arith, nat_tests);
      low = omega arith;
      high = omega arith;
      came = λ i below. grind (arith, nat_tests);
    } in
    slots_freed p.wide c.self.inside.grid c.turn_down.new.self source p.line (p.bottom + 1 - count) count c.columns_of.result (p.line + count - 1 + 1 - p.line) c.blank.result c.fill_lines.new.self.slots filled
    c.turn_down.ensures.order c.turn_down.ensures.slots c.blank.ensures c.columns_of.ensures (omega arith) c.fill_lines.ensures.slots
    ∙ ap (λ (k : ℕ). slots_blanked (p.bottom + 1 - k) k c.self.inside.grid.order c.self.inside.grid.slots) few
    ∙ in_region p (slots_blanked (p.bottom + 1 - (min c.args.n (p.bottom + 1 - p.line))) (min c.args.n (p.bottom + 1 - p.line)) c.self.inside.grid.order c.self.inside.grid.slots) c.self.inside.grid.slots c.if-self.true c.if-self-2.true

pub returns-then-self-2-clause-slots : goal.returns-then-self-2-clause-slots
returns-then-self-2-clause-slots c = are_freed c ∙ ap (λ (s : ScreenState). slots_lines_inserted c.args.n s.picture s.order s.slots) c.self.view_is

-- the rows of the region have moved
rows_moved : (c : goal.After-self-then-self-2-1) → rows_of c.fill_lines.new.self ≡ scrolled_down c.args.n c.self.inside.line c.self.inside.bottom (rows_of c.self.inside.grid)
rows_moved c =
    let p = picture_of c.self.inside in
    let moved : Picture = moved_to_left (record p { rows = scrolled_down c.args.n p.line p.bottom p.rows }) in
    let here : is_in_region p ≡ true = (let top = c.if-self.true in let bottom = c.if-self-2.true in grind (arith, nat_tests)) in
    ap (λ (q : Picture). q.rows) (are_inserted c) ∙ ap (λ (b : Bool). let q : Picture = if b then moved else p in q.rows) here

pub returns-then-self-2-clause-told : goal.returns-then-self-2-clause-told
returns-then-self-2-clause-told c =
    down_told (state_of c.self.inside) c.args.self.now _ _ c.self.view_is c.args.n c.self.inside.line c.self.inside.bottom c.turn_down.ensures.touched (rows_moved c)
