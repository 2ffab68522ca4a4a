use Rattle.std.proofs.Common.{[], ◌∷◌, subst, sym, ◌∙◌, arith}
use Rattle.std.specs.Prelude.{OnOk}
use Rattle.transcripts.specs.Told.{Tells}
use Rattle.screen_transcript.proofs.RowLemmas.{ascii_told, line_len, line_told}
use Rattle.screen_transcript.proofs.rows.tell_row.Goals as goal

pub returns-then-are_ascii-clause-tells : goal.returns-then-are_ascii-clause-tells
returns-then-are_ascii-clause-tells g c =
    let is = ascii_told c.args.screen.now.picture c.args.line c.is_wide.result c.row-row.result.now c.cells_to_margin.result.now c.trimmed-len.result.now c.glyphs_of-glyphs.result
    c.is_wide.ensures c.row-row.ensures.value c.cells_to_margin.ensures.cells c.trimmed-len.ensures c.glyphs_of-glyphs.ensures (sym c.are_ascii.ensures ∙ c.if-are_ascii.true) in
    subst (λ text. OnOk c.put.result (Tells g.W.Write.contents c.args.writer.now c.args.rows.now c.put.new.writer c.put.new.self (text ∷ []))) is c.put.ensures.tells

pub slice_bounds-put-count : goal.slice_bounds-put-count
slice_bounds-put-count g c =
    omega (
      arith,
      line_len c.args.screen.now.picture c.args.line c.is_wide-2.result c.row-row.result.now c.as_bytes-bytes.result.now c.is_wide-2.ensures c.row-row.ensures.value
          (c.as_bytes-bytes.ensures.value ∙ c.deref.ensures.0 ∙ c.printed_row-text.ensures),
    )

pub returns-clause-tells : goal.returns-clause-tells
returns-clause-tells g c =
    let is = line_told c.args.screen.now.picture c.args.line c.is_wide-2.result c.row-row.result.now c.as_bytes-bytes.result.now c.is_wide-2.ensures c.row-row.ensures.value
    (c.as_bytes-bytes.ensures.value ∙ c.deref.ensures.0 ∙ c.printed_row-text.ensures) in
    subst (λ text. OnOk c.put-2.result (Tells g.W.Write.contents c.args.writer.now c.args.rows.now c.put-2.new.writer c.put-2.new.self (text ∷ []))) is c.put-2.ensures.tells
