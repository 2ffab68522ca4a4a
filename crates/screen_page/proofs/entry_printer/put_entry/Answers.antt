use Rattle.std.proofs.Common.{◌∷◌, ◌++◌, All, List, [], ap, ap₂, subst, sym, ◌∙◌, ℕ}
use Rattle.std.specs.List.{flat_map}
use Rattle.tape_core.specs.Devices.{Gave}
use Rattle.held.specs.Held.{Wrote}
use Rattle.held.proofs.HeldLemmas.{gave_all, wrote_both}
use Rattle.vt_screen.specs.declared.cell.Row.{Row}
use Rattle.vt_screen.specs.Picture.{Picture}
use Rattle.screen_rows.specs.SameRows.{changed_lines}
use Rattle.screen_print.specs.Stills.{still_of}
use Rattle.screen_page.specs.Parts.{IsLine, front_text, line_text}
use Rattle.screen_page.proofs.PageLemmas.{changed_are_lines, entry_is}
use Rattle.screen_page.proofs.entry_printer.put_entry.Goals as goal

pub put_lines-requires-clause-lines : goal.put_lines-requires-clause-lines
put_lines-requires-clause-lines g c =
    subst (All IsLine) (sym c.requires.lines) (changed_are_lines c.args.rows.now.rows c.args.screen.now.picture.rows)

pub returns : goal.returns
returns g c = λ before same.
    let after = still_of c.args.after.now.console in
    let lines = c.args.compared.now.lines.items in
    let joins = c.gives_join.ensures in
    let rows = c.args.rows.now.rows in
    let shown = ap (λ (p : Picture). p.rows) c.requires.screen in
    let all = wrote_both c.put_byte.ensures (wrote_both c.put_lines.ensures (wrote_both c.put_front.ensures c.put.ensures)) in
    let told = ap₂ (λ (one other : List Row). (((44 ∷ 10 ∷ 91 ∷ []) ++ front_text c.args.due after) ++ flat_map (line_text one other) lines) ++ 93 ∷ []) (sym same) shown in
    let text = (((44 ∷ 10 ∷ 91 ∷ []) ++ front_text c.args.due after) ++ flat_map (line_text rows c.args.screen.now.picture.rows) lines) ++ 93 ∷ [] in
    let opened = subst (λ (x : List ℕ). Wrote g.W.Write.contents c.args.writer.now x c.put_byte.new.writer c.put_byte.new.held.items text) c.new-held.ensures all in
    let changed = c.requires.lines ∙ ap₂ changed_lines (sym same) shown in
    subst (Gave g.W.Write.contents c.args.writer.now c.let_out.new.writer) (told ∙ sym (entry_is c.args.due before after lines changed))
    (gave_all joins.both joins.nothing _ _ _ _ _ opened c.let_out.ensures.gave)
