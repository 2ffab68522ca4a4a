use Rattle.std.proofs.Common.{All, [], ◌∷◌, ◌++◌, ap, append-nil, get_or, subst, sym, take, ◌∙◌}
use Rattle.std.specs.List.{flat_map}
use Rattle.std.proofs.lemmas.List.{get_or_default, take_more}
use Rattle.std.proofs.lemmas.List.Elements.{All-get_or}
use Rattle.std.proofs.lemmas.List.Concat.{flat_map-append}
use Rattle.held.specs.Held.{Wrote}
use Rattle.held.proofs.HeldLemmas.{wrote_both}
use Rattle.vt_screen.proofs.Tables.{nth_is}
use Rattle.screen_rows.specs.KeptRows.{IsFrom}
use Rattle.screen_page.specs.Parts.{IsLine, line_text}
use Rattle.screen_page.proofs.entry_printer.put_lines.Goals as goal

pub put_line-requires-clause-source : goal.put_line-requires-clause-source
put_line-requires-clause-source g c =
    let lines = c.as_slice-lines.result.now in
    let at = c.loop-line.line-index in
    let is = All-get_or IsLine lines at 0 c.loop-line-test.true (subst (All IsLine) (sym c.as_slice-lines.ensures.value) c.requires.lines) in
    let line = get_or lines at 0 in
    subst (IsFrom c.args.rows.now c.args.screen.now line) (nth_is 0 c.args.compared.now.sources line) (c.requires.sources line is.low is.high)

pub loop-line-preserved : goal.loop-line-preserved
loop-line-preserved g c =
    let text = line_text c.args.rows.now.rows c.args.screen.now.picture.rows in
    let lines = c.as_slice-lines.result.now in
    let at = c.loop-line.line-index in
    let line = get_or lines at 0 in
    let more = ap (flat_map text) (take_more lines at line c.loop-line-test.true ∙ ap (λ l. take at lines ++ l ∷ []) (sym (get_or_default lines at 0 line c.loop-line-test.true))) in
    subst (Wrote g.W.Write.contents c.args.writer.now c.args.held.now.items c.put_line.new.writer c.put_line.new.held.items)
    (sym (more ∙ flat_map-append text (take at lines) (line ∷ []) ∙ ap (λ t. flat_map text (take at lines) ++ t) (append-nil (text line))))
    (wrote_both c.put_line.ensures c.loop-line.invariant)
