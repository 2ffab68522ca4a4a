use Rattle.std.proofs.Common.{encode_utf8, take}
use Rattle.std.specs.List.{flat_map}
use Rattle.held.specs.Held.{Wrote}
use Rattle.standings.proofs.line.put_each.Given as goal

-- the characters so far have gone out
abbrev pub invariant-loop-character : goal.invariant-loop-character
invariant-loop-character g l = Wrote g.W.Write.contents l.fn.writer l.fn.held.items l.writer l.held.items (flat_map encode_utf8 (take l.character-index l.chars))
