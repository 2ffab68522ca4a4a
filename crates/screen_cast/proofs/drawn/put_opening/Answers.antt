use Rattle.std.proofs.Common.{List, ℕ, arith, subst, codes, decimal, ap, ◌∙◌, ◌++◌}
use Rattle.held.specs.Held.{Wrote}
use Rattle.held.proofs.HeldLemmas.{wrote_both}
use Rattle.screen_cast.proofs.JsonLemmas.{opening_is}
use Rattle.screen_cast.proofs.drawn.put_opening.Goals as goal

pub returns-then-has_two_digits : goal.returns-then-has_two_digits
returns-then-has_two_digits g c =
    subst (Wrote g.W.Write.contents c.args.writer.now c.args.held.now.items c.put.new.writer c.put.new.held.items) c.opening_of.ensures c.put.ensures

pub returns-else-has_two_digits : goal.returns-else-has_two_digits
returns-else-has_two_digits g c =
    let opens : List ℕ = codes "\\u001b[" in
    let rest : List ℕ = codes ";1H\\u001b[0m\\u001b[2K" in
    subst (Wrote g.W.Write.contents c.args.writer.now c.args.held.now.items c.put-else-has_two_digits-2.new.writer c.put-else-has_two_digits-2.new.held.items)
    (ap (λ n. (opens ++ decimal n) ++ rest) c.from.ensures ∙ opening_is c.args.line (omega (arith, c.ranges.line.fits)))
    (wrote_both c.put-else-has_two_digits-2.ensures (wrote_both c.put_number.ensures c.put-else-has_two_digits.ensures))
