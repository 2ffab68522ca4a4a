use Rattle.std.proofs.Common.{List, ℕ, subst, codes, ap, ◌∙◌, ◌++◌}
use Rattle.held.specs.Held.{Wrote}
use Rattle.held.proofs.HeldLemmas.{wrote_both}
use Rattle.screen_cast.proofs.JsonLemmas.{spaces_are}
use Rattle.screen_cast.proofs.drawn.put_spaces.Goals as goal

pub returns : goal.returns
returns g c =
    let opens : List ℕ = codes "\\u001b[0;7m" in
    subst (Wrote g.W.Write.contents c.args.writer.now c.args.held.now.items c.put-2.new.writer c.put-2.new.held.items)
    (ap (λ t. opens ++ t) c.spaces.ensures ∙ spaces_are c.args.count)
    (wrote_both c.put-2.ensures c.put.ensures)
