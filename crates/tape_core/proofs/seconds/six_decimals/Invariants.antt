use Rattle.std.proofs.Common.{◌≡◌, ◌<◌, ◌++◌, ◌^◌, take, replicate}
use Rattle.std.specs.Str.Parse.{digits_value}
use Rattle.tape_core.proofs.seconds.six_decimals.Given as goal

-- the number that the first decimals write, filled with zeros
abbrev pub invariant-loop-i : goal.invariant-loop-i
invariant-loop-i l = record {
  value : l.n ≡ digits_value 10 (take l.i (l.decimals ++ replicate 6 48));
  small : l.n < 10 ^ l.i;
}
