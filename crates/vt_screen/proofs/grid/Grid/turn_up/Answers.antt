use Rattle.std.proofs.Common.{ℕ, List, sym, ap, subst, ◌∙◌}
use Rattle.vt_screen.specs.Slots.{Held, OncePerSlot, rows_of, line_below}
use Rattle.vt_screen.specs.Written.{lines_taken}
use Rattle.vt_screen.proofs.Turns.{turning_up, rows_turned, once_turned}
use Rattle.vt_screen.proofs.grid.Grid.turn_up.Goals as goal

pub invariant_of-self : goal.invariant_of-self
invariant_of-self c =
    let source = line_below c.args.n c.args.top c.args.bottom in
    let turning = turning_up c.args.n c.args.top c.args.bottom c.requires.low c.requires.room c.requires.apart c.requires.high in
    subst (λ (order : List ℕ). OncePerSlot (record { order = order; slots = c.self.inside.slots })) (sym c.turn_lines.ensures.order) (once_turned source turning _ c.self.invariant)

pub returns-clause-rows : goal.returns-clause-rows
returns-clause-rows c =
    let source = line_below c.args.n c.args.top c.args.bottom in
    let turning = turning_up c.args.n c.args.top c.args.bottom c.requires.low c.requires.room c.requires.apart c.requires.high in
    ap (λ (order : List ℕ). rows_of (record { order = order; slots = c.self.inside.slots })) c.turn_lines.ensures.order
    ∙ rows_turned source turning _ c.self.invariant ∙ ap (λ (h : Held). lines_taken source (rows_of h)) c.self.view_is
