use Rattle.std.proofs.Common.{◌≡◌, ◌≤◌, ◌++◌, ◌∷◌, [], ◌∙◌, ap, sym, subst, arith, true, false, encode_utf8, length, take, get_or, append-nil, append_assoc}
use Rattle.std.specs.List.{flat_map}
use Rattle.sheet.specs.Cells.{is_covered}
use Rattle.transcripts.specs.Told.{PutsPart}
use Rattle.transcripts.proofs.ToldLemmas.{puts_both, puts_none}
use Rattle.xterm_rows.proofs.TextLemmas.{letter_printed, printed_covered, printed_open}
use Rattle.xterm_transcript.proofs.RowLemmas.{texts_more}
use Rattle.xterm_transcript.proofs.rows.put_cell.Goals as goal

pub returns-then-is_letter : goal.returns-then-is_letter
returns-then-is_letter g c =
    let cell = c.args.cell in
    let letter = c.is_letter.ensures c.if-is_letter.true in
    subst (PutsPart g.W.Write.contents c.args.writer.now c.args.rows.now c.put_part.new.writer c.put_part.new.self)
    (ap (λ byte. byte ∷ []) (c.ascii.ensures letter.low) ∙ sym (letter_printed cell.rendition cell letter)) c.put_part.ensures

pub returns-then-is_covered : goal.returns-then-is_covered
returns-then-is_covered g c =
    let covered : is_covered c.args.cell ≡ true = cc in
    subst (PutsPart g.W.Write.contents c.args.writer.now c.args.rows.now c.args.writer.now c.args.rows.now) (printed_covered c.args.cell covered)
    (puts_none c.args.writer.now c.args.rows.now)

pub loop-n-init : goal.loop-n-init
loop-n-init g c =
    subst (PutsPart g.W.Write.contents c.args.writer.now c.args.rows.now c.put_character.new.writer c.put_character.new.rows)
    (ap encode_utf8 c.character.ensures ∙ sym (append-nil (encode_utf8 c.args.cell.character))) c.put_character.ensures

pub loop-n-preserved : goal.loop-n-preserved
loop-n-preserved g c =
    let marks = c.args.cell.marks in
    let n = c.loop-n.n in
    let first = encode_utf8 c.args.cell.character in
    let told = flat_map encode_utf8 (take n marks) in
    subst (PutsPart g.W.Write.contents c.args.writer.now c.args.rows.now c.put_character-in-loop-n.new.writer c.put_character-in-loop-n.new.rows)
    (ap (λ x. (first ++ told) ++ encode_utf8 x) c.mark.ensures
    ∙ append_assoc first told (encode_utf8 (get_or marks n 0))
    ∙ ap (λ t. first ++ t) (sym (texts_more encode_utf8 marks n 0 (omega (arith, c.mark_count-n-end.ensures.value, c.loop-n-test.true)))))
    (puts_both c.put_character-in-loop-n.ensures c.loop-n.invariant)

pub returns : goal.returns
returns g c =
    let bare : is_covered c.args.cell ≡ false = cc in
    let all : length c.args.cell.marks ≤ c.loop-n.n = omega (arith, c.mark_count-n-end.ensures.value, c.loop-n-test.false) in
    subst (PutsPart g.W.Write.contents c.args.writer.now c.args.rows.now c.loop-n.writer c.loop-n.rows) (printed_open c.args.cell c.loop-n.n bare all)
    c.loop-n.invariant
