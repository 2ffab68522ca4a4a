use Rattle.std.proofs.Common.{ℕ, List, subst, sym}
use Rattle.held.specs.Held.{Wrote}
use Rattle.held.proofs.HeldLemmas.{wrote_out}
use Rattle.held.proofs.put_out.Goals as goal

pub returns : goal.returns
returns g c =
    subst (λ (held : List ℕ). Wrote g.W.Write.contents c.args.writer.now c.args.held.now.items c.give.new.self held c.args.bytes.now) (sym c.let_out.ensures.none)
    (wrote_out c.gives_join.ensures.both c.args.writer.now c.let_out.new.writer c.give.new.self c.args.held.now.items c.args.bytes.now c.let_out.ensures.gave c.give.ensures)
