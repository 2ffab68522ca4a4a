use Rattle.tape_core.specs.Devices.{Gave}
use Rattle.xterm_rows.proofs.RangeLemmas.{texts_from}
use Rattle.xterm_picture.specs.Letters.{place_text}
use Rattle.xterm_picture.proofs.letters.put_further.Given as goal

-- the places before this one have gone out
abbrev pub invariant-loop-at : goal.invariant-loop-at
invariant-loop-at g l = Gave g.W.Write.contents l.fn.writer l.writer (texts_from (place_text l.cells) l.from l.at)
