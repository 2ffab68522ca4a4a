use Rattle.std.proofs.Common.{◌≡◌, replicate}
use Rattle.xterm_print.proofs.erased.put_spaces.Given as goal

-- those so far are spaces
abbrev pub invariant-loop : goal.invariant-loop
invariant-loop l = l.letters.items ≡ replicate l.counter 32
