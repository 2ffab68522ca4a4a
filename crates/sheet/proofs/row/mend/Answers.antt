use Rattle.std.proofs.Common.{◌≡◌, ◌∙◌, Bool, true, false, sym, arith}
use Rattle.std.specs.Prelude.{not}
use mathlib.Core.Bool.{beq}
use Rattle.sheet.proofs.Rows.{left_blanked, right_blanked, none_blanked}
use Rattle.sheet.proofs.row.mend.Goals as goal

other : (a b : Bool) → not (beq a b) ≡ true → b ≡ not a
other true true e = cc
other true false e = grind arith
other false true e = grind arith
other false false e = cc

same : (a b : Bool) → not (beq a b) ≡ false → a ≡ b
same true true e = grind arith
same true false e = cc
same false true e = cc
same false false e = grind arith

pub returns-then-left : goal.returns-then-left
returns-then-left c =
    let right : c.covered_at-right.result ≡ false = other c.wide_at-left.result c.covered_at-right.result c.if-left-right.true ∙ (let t = c.if-left.true in grind arith) in
    left_blanked c.args.border c.args.paper c.args.cells.now c.blank.result c.blank.ensures (omega (arith, c.wide_at-left.ensures.low c.if-left.true)) (omega (arith, c.wide_at-left.ensures.high c.if-left.true))
    (sym c.wide_at-left.ensures.value ∙ c.if-left.true) (sym c.covered_at-right.ensures.value ∙ right)

pub returns-else-left : goal.returns-else-left
returns-else-left c =
    let right : c.covered_at-right.result ≡ true = other c.wide_at-left.result c.covered_at-right.result c.if-left-right.true ∙ (let t = c.if-left.false in grind arith) in
    right_blanked c.args.border c.args.paper c.args.cells.now c.blank-else-left.result c.blank-else-left.ensures (omega arith) (omega (arith, c.covered_at-right.ensures.high right))
    (sym c.wide_at-left.ensures.value ∙ c.if-left.false) (sym c.covered_at-right.ensures.value ∙ right)

pub returns-else-left-right : goal.returns-else-left-right
returns-else-left-right c =
    none_blanked c.args.border c.args.paper c.args.cells.now
    (sym c.wide_at-left.ensures.value ∙ same c.wide_at-left.result c.covered_at-right.result c.if-left-right.false ∙ c.covered_at-right.ensures.value)
