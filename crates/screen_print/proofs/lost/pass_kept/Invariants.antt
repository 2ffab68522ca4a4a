use Rattle.std.proofs.Common.{◌≡◌, ◌+◌, ◌-◌, ◌≤◌, []}
use Rattle.screen_print.specs.ByLine.{AreLost}
use Rattle.screen_print.proofs.lost.pass_kept.Given as goal

-- no place above this line may have gone
abbrev pub invariant-loop-line : goal.invariant-loop-line
invariant-loop-line l = record {
  low : 1 ≤ l.line;
  within : l.line ≤ 25;
  ready : l.lost.ready ≡ l.line;
  none : l.lost.places.items ≡ [];
  lost : AreLost l.sought.text.now l.pair.one.now l.line l.pair.other.now l.lost.next [];
}

abbrev pub decreases-loop-line : goal.decreases-loop-line
decreases-loop-line l = 25 - l.line
