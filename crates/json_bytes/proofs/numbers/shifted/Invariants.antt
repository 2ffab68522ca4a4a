use Rattle.std.proofs.Common.{◌≡◌, ◌*◌, ◌^◌, min}
use Rattle.json_bytes.specs.Numbers.{greatest}
use Rattle.json_bytes.proofs.numbers.shifted.Given as goal

-- so many zeros were added
abbrev pub invariant-loop : goal.invariant-loop
invariant-loop l = l.n ≡ min greatest (l.before * 10 ^ l.counter)
