use Rattle.std.proofs.Common.{decimal, ap, subst}
use Rattle.held.specs.Held.{Wrote}
use Rattle.screen_page.specs.Entries.{shown}
use Rattle.held.proofs.HeldLemmas.{wrote_both}
use Rattle.screen_page.proofs.rows.put_row.Goals as goal

pub returns : goal.returns
unfolding shown
returns g c =
    let size = subst (Wrote g.W.Write.contents c.put.new.writer c.put.new.held.items c.put_number.new.writer c.put_number.new.held.items)
    (ap decimal c.size_number.ensures) c.put_number.ensures in
    wrote_both c.put_byte.ensures (wrote_both c.put_runs.ensures (wrote_both size c.put.ensures))
