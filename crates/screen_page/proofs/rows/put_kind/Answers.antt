use Rattle.std.proofs.Common.{◌∷◌, ◌++◌, [], ap, subst, sym, arith}
use Rattle.std.proofs.lemmas.Fmt.{decimal_digit}
use Rattle.held.specs.Held.{Wrote}
use Rattle.screen_page.proofs.rows.put_kind.Goals as goal

pub returns-then-kind-lt10 : goal.returns-then-kind-lt10
returns-then-kind-lt10 g c =
    subst (Wrote g.W.Write.contents c.args.writer.now c.args.held.now.items c.put.new.writer c.put.new.held.items)
    (sym (ap (λ t. (44 ∷ t) ++ 44 ∷ 34 ∷ []) (decimal_digit c.args.kind (omega arith)))) c.put.ensures
