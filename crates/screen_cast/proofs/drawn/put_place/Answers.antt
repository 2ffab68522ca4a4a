use Rattle.std.proofs.Common.{List, [], ◌∷◌, ℕ, arith, subst, codes, decimal, ap₂, ◌∙◌, ◌++◌}
use Rattle.held.specs.Held.{Wrote}
use Rattle.held.proofs.HeldLemmas.{wrote_both}
use Rattle.screen_cast.proofs.JsonLemmas.{place_is}
use Rattle.screen_cast.proofs.drawn.put_place.Goals as goal

pub returns : goal.returns
returns g c =
    let opens : List ℕ = codes "\\u001b[" in
    subst (Wrote g.W.Write.contents c.args.writer.now c.args.held.now.items c.put_byte-2.new.writer c.put_byte-2.new.held.items)
    (ap₂ (λ (l m : ℕ). (((opens ++ decimal l) ++ 59 ∷ []) ++ decimal m) ++ 72 ∷ []) c.from.ensures c.from-2.ensures
    ∙ place_is c.args.line c.args.column (omega (arith, c.ranges.line.fits)) (omega (arith, c.ranges.column.fits)))
    (wrote_both c.put_byte-2.ensures (wrote_both c.put_number-2.ensures (wrote_both c.put_byte.ensures (wrote_both c.put_number.ensures c.put.ensures))))
