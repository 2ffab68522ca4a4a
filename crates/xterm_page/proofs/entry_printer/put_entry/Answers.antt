use Rattle.std.proofs.Common.{◌∷◌, ◌++◌, List, [], ℕ, ap, subst, sym, ◌∙◌}
use Rattle.std.specs.List.{flat_map}
use Rattle.tape_core.specs.Devices.{Gave}
use Rattle.xterm_screen.specs.Picture.{Picture}
use Rattle.held.specs.Held.{Wrote}
use Rattle.xterm_page.specs.Parts.{AreLines, front_text, lines_text, renewed_text, told}
use Rattle.xterm_page.specs.declared.kept.Renewal.{Renewal}
use Rattle.held.proofs.HeldLemmas.{gave_all, wrote_both}
use Rattle.xterm_page.proofs.PageLemmas.{entry_is, renewals_written}
use Rattle.xterm_page.proofs.entry_printer.put_entry.Goals as goal

pub put_lines-requires : goal.put_lines-requires
put_lines-requires g c = subst (λ (p : Picture). AreLines p.lines c.args.changed.now) (sym c.screen.ensures.value) c.requires

pub returns : goal.returns
returns g c = λ before tells is.
    let seen = c.args.after.now in
    let after = seen.console in
    let joins = c.gives_join.ensures in
    let told = subst (Wrote g.W.Write.contents c.put_front.new.writer c.put_front.new.held.items c.put_lines.new.writer c.put_lines.new.held.items)
    (ap (λ (p : Picture). flat_map (λ (x : Renewal). flat_map (renewed_text p.rows) (told x)) c.args.changed.now) c.screen.ensures.value
    ∙ renewals_written seen.origins after.picture.lines before after.picture.rows c.args.changed.now is) c.put_lines.ensures in
    let all = wrote_both c.put_byte.ensures (wrote_both told (wrote_both c.put_front.ensures c.put.ensures)) in
    let text = (((44 ∷ 10 ∷ 91 ∷ []) ++ front_text c.args.due after) ++ lines_text seen.origins after.picture.lines before after.picture.rows) ++ 93 ∷ [] in
    let opened = subst (λ (x : List ℕ). Wrote g.W.Write.contents c.args.writer.now x c.put_byte.new.writer c.put_byte.new.held.items text) c.new-held.ensures all in
    subst (Gave g.W.Write.contents c.args.writer.now c.let_out.new.writer) (sym (entry_is seen.origins c.args.due before after tells))
    (gave_all joins.both joins.nothing _ _ _ _ _ opened c.let_out.ensures.gave)
