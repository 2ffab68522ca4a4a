use Rattle.std.proofs.Common.{◌≡◌, true, length, take, map}
use Rattle.std.specs.List.{list_all}
use Rattle.xterm_term.specs.Ahead.{is_narrow}
use Rattle.xterm_term.specs.Sets.{character_of}
use Rattle.xterm_term.proofs.puts.spell.Given as goal

-- the bytes so far were spelled
abbrev pub invariant-loop-byte : goal.invariant-loop-byte
invariant-loop-byte l = record {
  long : length l.letters.items ≡ l.byte-index;
  spelled : l.letters.items ≡ map (character_of l.set) (take l.byte-index l.bytes);
  narrow : list_all is_narrow l.letters.items ≡ true;
}
