use Rattle.std.proofs.Common.{append-nil, subst, sym}
use Rattle.std.specs.Prelude.{replicate}
use Rattle.held.specs.Held.{Wrote}
use Rattle.transcripts.proofs.rows.Rows.begin_row.Goals as goal

pub returns : goal.returns
returns g c = record {
  wrote = subst (Wrote g.W.Write.contents c.args.writer.now c.args.self.now.held c.begin.new.writer c.begin.new.self.held)
      (sym (append-nil (replicate c.args.self.now.blank 10))) c.begin.ensures.lines;
  none = c.begin.ensures.none;
}
