use Rattle.std.proofs.Common.{◌≡◌, ℕ, ◌<◌, false, get_or, length}
use Rattle.screen_print.specs.Skim.{IsPlain}
use Rattle.screen_print.proofs.key.marks_of.Given as goal

-- the bytes so far that aren't marked are plain
abbrev pub invariant-loop-byte : goal.invariant-loop-byte
invariant-loop-byte l = record {
  whole : length l.marks ≡ 256;
  marks : (k : ℕ) → k < l.byte → get_or l.marks k false ≡ false → IsPlain l.chars k;
}
