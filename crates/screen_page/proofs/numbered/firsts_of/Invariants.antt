use Rattle.std.proofs.Common.{◌≡◌, ℕ, ◌+◌, ◌<◌, ◌≤◌, get_or, length}
use Rattle.screen_page.specs.Numbered.{IsFirst, bucket_of, number_at_line}
use Rattle.screen_page.proofs.numbered.firsts_of.Given as goal

-- the lines that were passed stand in their buckets, or lines above them do
abbrev pub invariant-loop-passed : goal.invariant-loop-passed
invariant-loop-passed l = record {
  long : length l.firsts ≡ 256;
  first : (k : ℕ) → 24 < k + l.passed → k ≤ 24 → IsFirst (get_or l.firsts (bucket_of (number_at_line l.numbers k)) 0) k;
}
