use Rattle.std.proofs.Common.{subst, ap, arith, sym, true, false, ◌≡◌, ◌≤◌, ◌∙◌, [], ◌∷◌, length}
use Rattle.tape_core.specs.Devices.{Gave}
use Rattle.sheet.specs.Cells.{is_covered}
use Rattle.xterm_rows.proofs.TextLemmas.{letter_printed, printed_covered, printed_open}
use Rattle.xterm_print.proofs.rows.put_cell.Goals as goal

pub returns-then-is_letter : goal.returns-then-is_letter
returns-then-is_letter g c =
    let cell = c.args.cell in
    let letter = c.is_letter.ensures c.if-is_letter.true in
    subst (Gave g.W.Write.contents c.args.writer.now c.give.new.self)
    (ap (λ byte. byte ∷ []) (c.ascii.ensures letter.low) ∙ sym (letter_printed cell.rendition cell letter)) c.give.ensures

pub returns-then-is_covered : goal.returns-then-is_covered
returns-then-is_covered g c =
    let covered : is_covered c.args.cell ≡ true = cc in
    subst (Gave g.W.Write.contents c.args.writer.now c.args.writer.now) (printed_covered c.args.cell covered)
    (c.gives_join.ensures.nothing c.args.writer.now)

pub returns : goal.returns
returns g c =
    let bare : is_covered c.args.cell ≡ false = cc in
    let all : length c.args.cell.marks ≤ c.loop-n.n = omega (arith, c.mark_count-n-end.ensures.value, c.loop-n-test.false) in
    subst (Gave g.W.Write.contents c.args.writer.now c.loop-n.writer) (printed_open c.args.cell c.loop-n.n bare all)
    c.loop-n.invariant
