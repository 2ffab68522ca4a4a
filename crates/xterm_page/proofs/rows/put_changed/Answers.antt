use Rattle.std.proofs.Common.{ℕ, Option, subst, sym}
use Rattle.held.specs.Held.{Wrote}
use Rattle.xterm_page.specs.Entries.{change_by}
use Rattle.xterm_page.specs.EntryText.{change_text, named_text}
use Rattle.held.proofs.HeldLemmas.{wrote_both}
use Rattle.xterm_page.proofs.rows.put_changed.Goals as goal

pub returns-in-Some : goal.returns-in-Some
unfolding named_text change_text
returns-in-Some g c =
    let line = c.args.line in
    let row = c.args.cells.now in
    subst (λ (o : Option ℕ). Wrote g.W.Write.contents c.args.writer.now c.args.held.now.items c.put_moved.new.writer c.put_moved.new.held.items (named_text (line, change_by o row)))
    (sym c.in-Some.is) c.put_moved.ensures

pub returns-in-None : goal.returns-in-None
unfolding named_text change_text
returns-in-None g c =
    let line = c.args.line in
    let row = c.args.cells.now in
    subst (λ (o : Option ℕ). Wrote g.W.Write.contents c.args.writer.now c.args.held.now.items c.put_row.new.writer c.put_row.new.held.items (named_text (line, change_by o row)))
    (sym c.in-None.is) (wrote_both c.put_row.ensures c.put_comma_number.ensures)
