use Rattle.std.proofs.Common.{◌≡◌, ◌++◌, encode_utf8, take}
use Rattle.std.specs.List.{flat_map}
use Rattle.standings.proofs.line.spell_each.Given as goal

-- the characters so far were put
abbrev pub invariant-loop-character : goal.invariant-loop-character
invariant-loop-character l = l.text.items ≡ l.fn.text.items ++ flat_map encode_utf8 (take l.character-index l.chars)
