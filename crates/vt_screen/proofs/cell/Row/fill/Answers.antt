use Rattle.std.proofs.Common.{◌≡◌, ℕ, ◌-◌, ◌∙◌, ap, set, arith}
use Rattle.vt_screen.specs.declared.cell.Row.{Row}
use Rattle.vt_screen.specs.Written.{filled}
use Rattle.vt_screen.proofs.Rows.{filled_none, filled_more}
use Rattle.vt_screen.proofs.cell.Row.fill.Goals as goal

pub loop-i-init : goal.loop-i-init
loop-i-init c = filled_none c.args.self.now c.args.from (c.args.from - 1) c.args.cell c.requires.whole (omega arith)

pub loop-i-preserved : goal.loop-i-preserved
loop-i-preserved c =
    ap (λ (row : Row). let r : Row = record { size = row.size; cells = set row.cells c.loop-i.i c.args.cell } in r) c.loop-i.invariant
    ∙ filled_more c.args.self.now c.args.from c.loop-i.i c.args.cell (omega arith) (omega arith)

pub returns : goal.returns
returns c =
    let all : c.loop-i.i ≡ c.args.to = omega arith in
    c.loop-i.invariant ∙ ap (λ (i : ℕ). filled c.args.from i c.args.cell c.args.self.now) all
