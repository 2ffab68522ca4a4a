use Rattle.std.proofs.Common.{◌∷◌, ◌++◌, List, ℕ, ap₂, subst, sym}
use Rattle.held.specs.Held.{Wrote}
use Rattle.itoa.proofs.Decimal.{decimal_two}
use Rattle.xterm_page.proofs.moved.put_moved.Goals as goal

pub returns-then-have_two_digits : goal.returns-then-have_two_digits
returns-then-have_two_digits g c =
    let both = c.have_two_digits.ensures in
    let is = c.if-have_two_digits.true in
    subst (Wrote g.W.Write.contents c.args.writer.now c.args.held.now.items c.put.new.writer c.put.new.held.items)
    (sym (ap₂ (λ (a b : List ℕ). (44 ∷ a) ++ (44 ∷ b)) (decimal_two c.args.line (both.low is) (both.high is)) (decimal_two c.args.other (both.other_low is) (both.other_high is))))
    c.put.ensures
