use Rattle.std.proofs.Common.{◌≡◌, min, take}
use Rattle.std.specs.Str.Parse.{digits_value}
use Rattle.tape_core.proofs.text.number.Given as goal

-- the number that the digits so far write, capped
abbrev pub invariant-loop-digit : goal.invariant-loop-digit
invariant-loop-digit l = l.n ≡ min (digits_value 10 (take l.digit-index l.digits)) l.most
