use Rattle.std.proofs.Common.{◌≡◌, ◌+◌, drop}
use Rattle.std.specs.Option.{option_map}
use Rattle.tape_import.specs.KeptTlog.{continued_len}
use Rattle.tape_import.proofs.tlog_timing.continued_len.Given as goal

-- behind the bytes so far stand those that are left to count
abbrev pub invariant-loop-b : goal.invariant-loop-b
invariant-loop-b l = record {
  same : continued_len l.count l.text ≡ option_map (λ k. l.len + k) (continued_len l.left (drop l.b-index l.text));
  within : l.len ≡ l.b-index;
}
