use Rattle.std.proofs.Common.{subst, arith, true, false, ◌≡◌, ◌≤◌, length}
use Rattle.tape_core.specs.Devices.{Gave}
use Rattle.sheet.specs.Cells.{is_covered}
use Rattle.xterm_picture.proofs.TextLemmas.{letter_covered, letter_open}
use Rattle.xterm_picture.proofs.texts.put_letter.Goals as goal

pub returns-then-is_covered : goal.returns-then-is_covered
returns-then-is_covered g c =
    let covered : is_covered c.args.cell ≡ true = cc in
    subst (Gave g.W.Write.contents c.args.writer.now c.args.writer.now) (letter_covered c.args.cell covered)
    (c.gives_join.ensures.nothing c.args.writer.now)

pub returns : goal.returns
returns g c =
    let bare : is_covered c.args.cell ≡ false = cc in
    let all : length c.args.cell.marks ≤ c.loop-n.n = omega (arith, c.mark_count-n-end.ensures.value, c.loop-n-test.false) in
    subst (Gave g.W.Write.contents c.args.writer.now c.loop-n.writer) (letter_open c.args.cell c.loop-n.n bare all)
    c.loop-n.invariant
