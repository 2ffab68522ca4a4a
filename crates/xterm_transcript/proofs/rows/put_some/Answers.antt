use Rattle.std.proofs.Common.{take, subst, sym, ap, ◌∙◌}
use Rattle.std.specs.List.{flat_map}
use Rattle.sheet.specs.Cells.{Cell}
use Rattle.transcripts.specs.Told.{PutsPart}
use Rattle.xterm_rows.specs.RowText.{printed}
use Rattle.xterm_transcript.proofs.RowLemmas.{texts_more}
use Rattle.xterm_transcript.proofs.rows.put_some.Goals as goal

pub returns-then-is_empty-clause-puts : goal.returns-then-is_empty-clause-puts
returns-then-is_empty-clause-puts g c =
    let cells = c.args.cells.now in
    subst (PutsPart g.W.Write.contents c.args.writer.now c.args.rows.now c.put_cell.new.writer c.put_cell.new.rows)
    (ap (λ (x : Cell). printed x) c.index-cells-0.is ∙ sym (texts_more printed cells 0 c.index-cells-0.result c.requires)) c.put_cell.ensures

pub returns-clause-puts : goal.returns-clause-puts
returns-clause-puts g c =
    let cells = c.args.cells.now in
    subst (PutsPart g.W.Write.contents c.args.writer.now c.args.rows.now c.put_part.new.writer c.put_part.new.self)
    (c.as_slice.ensures.value ∙ c.spell.ensures.spelled ∙ ap (λ n. flat_map printed (take n cells)) (sym c.len.ensures.value)) c.put_part.ensures
