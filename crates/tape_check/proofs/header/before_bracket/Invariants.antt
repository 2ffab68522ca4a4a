use Rattle.std.proofs.Common.{◌≡◌, ◌-◌, ◌≤◌, ◌++◌, drop, length, take}
use Rattle.tape_check.specs.Header.{before_bracket}
use Rattle.tape_check.proofs.header.before_bracket.Given as goal

-- what was passed stands before the ` [`
abbrev pub invariant-loop-end : goal.invariant-loop-end
invariant-loop-end l = record {
  within : l.end ≤ length l.text;
  led : before_bracket l.text ≡ take l.end l.text ++ before_bracket (drop l.end l.text);
}

abbrev pub decreases-loop-end : goal.decreases-loop-end
decreases-loop-end l = length l.text - l.end
