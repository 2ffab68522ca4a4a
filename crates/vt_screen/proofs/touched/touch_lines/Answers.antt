use Rattle.std.proofs.Common.{◌≡◌, ℕ, ◌+◌, ap₂, ◌∙◌, arith}
use Rattle.vt_screen.specs.Table.{table}
use Rattle.vt_screen.specs.Touched.{touched_from}
use Rattle.vt_screen.proofs.Told.{touched_all}
use Rattle.vt_screen.proofs.touched.touch_lines.Goals as goal

pub returns-then-last-eq-LINES : goal.returns-then-last-eq-LINES
unfolding table
returns-then-last-eq-LINES c =
    let top : 1 ≡ c.args.first = omega arith in
    let bottom : 24 ≡ c.args.last = omega arith in
    touched_all c.args.touched.now ∙ ap₂ (λ (first last : ℕ). touched_from first (last + 1) c.args.touched.now) top bottom
