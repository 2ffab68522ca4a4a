use Rattle.std.proofs.Common.{◌≡◌, subst, sym, arith}
use Rattle.std.proofs.lemmas.Result.{err_from_is_err_and}
use Rattle.transcripts.specs.Told.{Tells}
use Rattle.transcripts.proofs.ToldLemmas.{tells_both}
use Rattle.xterm_transcript.specs.Rows.{first_rows}
use Rattle.xterm_transcript.proofs.RowLemmas.{front_rows, row_next}
use Rattle.xterm_transcript.proofs.rows.tell_rows.Goals as goal

pub returns-in_err-tell_row-clause-front : goal.returns-in_err-tell_row-clause-front
returns-in_err-tell_row-clause-front g c =
    let p = err_from_is_err_and c.from_residual.result c.from_residual.ensures.1 in
    rw (p.1, c.in_err-tell_row.ensures.rows_stay, c.in_err-tell_row.ensures.writer_stays)
    (front_rows {contents = g.W.Write.contents} {a = c.args.writer.now} {b = c.loop-line.writer} {x = c.args.rows.now} {y = c.loop-line.rows} c.args.screen.now.picture c.loop-line.line c.args.count (omega arith) c.loop-line.invariant)

pub loop-line-preserved : goal.loop-line-preserved
loop-line-preserved g c =
    let p = c.args.screen.now.picture in
    subst (Tells g.W.Write.contents c.args.writer.now c.args.rows.now c.tell_row.new.writer c.tell_row.new.rows)
    (sym (row_next p c.loop-line.line c.cursor-sound.ensures.sound (omega arith)))
    (tells_both c.in_ok-tell_row.ensures.tells c.loop-line.invariant)

pub returns-clause-tells : goal.returns-clause-tells
returns-clause-tells g c =
    let last : c.loop-line.line ≡ c.args.count = omega arith in
    subst (λ n. Tells g.W.Write.contents c.args.writer.now c.args.rows.now c.loop-line.writer c.loop-line.rows (first_rows n c.args.screen.now.picture))
    last c.loop-line.invariant
