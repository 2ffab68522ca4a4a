use Rattle.std.proofs.Common.{◌∙◌, subst}
use Rattle.std.specs.List.{flat_map}
use Rattle.held.specs.Held.{Wrote}
use Rattle.xterm_page.specs.Entries.{cells_shown, shown}
use Rattle.xterm_page.specs.EntryText.{row_text, run_text}
use Rattle.xterm_page.proofs.UsedLemmas.{inked_used}
use Rattle.held.proofs.HeldLemmas.{wrote_both}
use Rattle.xterm_page.proofs.rows.put_row.Goals as goal

pub returns : goal.returns
unfolding row_text shown
returns g c =
    let runs = subst (λ cells. Wrote g.W.Write.contents c.put.new.writer c.put.new.held.items c.put_runs.new.writer c.put_runs.new.held.items (flat_map run_text (cells_shown cells)))
    (c.inked.ensures.inked ∙ inked_used c.args.cells.now c.args.used c.requires) c.put_runs.ensures in
    wrote_both c.put_byte.ensures (wrote_both runs c.put.ensures)
