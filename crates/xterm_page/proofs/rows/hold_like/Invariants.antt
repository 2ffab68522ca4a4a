use Rattle.std.proofs.Common.{◌≡◌, ◌+◌, ◌++◌, length, take}
use Rattle.xterm_rows.specs.Letters.{AreLetters}
use Rattle.xterm_page.specs.Plain.{string_of}
use Rattle.xterm_page.proofs.rows.hold_like.Given as goal

-- the cells so far are letters, and held
abbrev pub invariant-loop-at : goal.invariant-loop-at
invariant-loop-at l = record {
  many : length l.held.items ≡ length l.fn.held.items + l.at;
  text : l.held.items ≡ l.fn.held.items ++ string_of (take l.at l.cells);
  letters : AreLetters l.letter.rendition l.cells 0 l.at;
}
