use Rattle.std.proofs.Common.{◌≡◌, ℕ, ◌<◌, false, get_or, length}
use Rattle.screen_print.specs.Skim.{IsMute}
use Rattle.screen_print.proofs.key.pauses_of.Given as goal

-- the bytes so far at which nothing pauses are mute
abbrev pub invariant-loop-byte : goal.invariant-loop-byte
invariant-loop-byte l = record {
  whole : length l.pauses ≡ 256;
  pauses : (k : ℕ) → k < l.byte → get_or l.pauses k false ≡ false → IsMute l.chars k;
}
