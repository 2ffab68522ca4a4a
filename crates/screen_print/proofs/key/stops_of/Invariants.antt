use Rattle.std.proofs.Common.{◌≡◌, ℕ, ◌<◌, false, get_or, length}
use Rattle.screen_print.specs.Skim.{IsRunning}
use Rattle.screen_print.proofs.key.stops_of.Given as goal

-- the bytes so far at which nothing stops are plain text
abbrev pub invariant-loop-byte : goal.invariant-loop-byte
invariant-loop-byte l = record {
  whole : length l.stops ≡ 256;
  stops : (k : ℕ) → k < l.byte → get_or l.stops k false ≡ false → IsRunning l.chars k;
}
