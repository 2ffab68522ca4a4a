use Rattle.std.proofs.Common.{◌≡◌, min, take}
use Rattle.std.specs.Str.Parse.{digits_value_after}
use Rattle.json_bytes.specs.Numbers.{greatest}
use Rattle.json_bytes.proofs.numbers.capped.Given as goal

-- the number that the digits so far write, capped
abbrev pub invariant-loop-digit : goal.invariant-loop-digit
invariant-loop-digit l = l.n ≡ min greatest (digits_value_after 10 l.before (take l.digit-index l.digits))
