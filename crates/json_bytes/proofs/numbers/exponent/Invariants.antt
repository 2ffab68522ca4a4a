use Rattle.std.proofs.Common.{◌≡◌, ◌^◌, min, take}
use Rattle.std.specs.Str.Parse.{digits_value}
use Rattle.json_bytes.proofs.numbers.exponent.Given as goal

-- the number that the digits so far write, capped
abbrev pub invariant-loop-digit : goal.invariant-loop-digit
invariant-loop-digit l = l.n ≡ min (2 ^ 100) (digits_value 10 (take l.digit-index l.digits))
