use Rattle.std.proofs.Common.{◌≡◌, ◌+◌, ◌≤◌, ◌==◌, length, take}
use Rattle.std.specs.List.{suffix_len}
use Rattle.standings.proofs.line.unspaced_blocks.Given as goal

-- only spaces were passed
abbrev pub invariant-loop-len : goal.invariant-loop-len
invariant-loop-len l = record {
  within : l.len ≤ length l.chars;
  passed : l.len + suffix_len (λ c. c == 32) l.chars ≡ length l.chars + suffix_len (λ c. c == 32) (take l.len l.chars);
}

abbrev pub decreases-loop-len : goal.decreases-loop-len
decreases-loop-len l = l.len
