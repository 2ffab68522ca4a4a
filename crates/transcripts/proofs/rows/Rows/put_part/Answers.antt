use Rattle.std.proofs.Common.{ap, subst}
use Rattle.held.specs.Held.{Wrote}
use Rattle.transcripts.specs.Told.{Back}
use Rattle.transcripts.proofs.ToldLemmas.{puts_behind}
use Rattle.transcripts.proofs.rows.Rows.put_part.Goals as goal

pub returns : goal.returns
returns g c =
    puts_behind {contents = g.W.Write.contents} c.args.writer.now c.put.new.writer c.args.self.now
    (record { held = c.put.new.held.items; blank = c.self.inside.blank }) c.args.part.now (ap (λ (b : Back). b.blank) c.self.view_is)
    (subst (λ held. Wrote g.W.Write.contents c.args.writer.now held c.put.new.writer c.put.new.held.items c.args.part.now)
    (ap (λ (b : Back). b.held) c.self.view_is) c.put.ensures)
