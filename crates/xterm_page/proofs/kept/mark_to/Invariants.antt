use Rattle.std.proofs.Common.{◌≡◌, length}
use Rattle.xterm_page.specs.Parts.{AreMarked}
use Rattle.xterm_page.proofs.kept.mark_to.Given as goal

-- the rows so far are marked
abbrev pub invariant-loop-at : goal.invariant-loop-at
invariant-loop-at l = record { long : length l.marks ≡ 2048; told : AreMarked l.rows l.at l.marks }
