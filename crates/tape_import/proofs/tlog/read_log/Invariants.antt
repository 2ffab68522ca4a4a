use Rattle.std.proofs.Common.{◌≡◌, ◌+◌, ◌≤◌, [], length}
use Rattle.tape_core.specs.Text.{lines_of}
use Rattle.tape_import.specs.KeptTlog.{CanLog}
use Rattle.tape_import.specs.Tlog.{log_of, messages}
use Rattle.tape_import.proofs.tlog.read_log.Given as goal

-- what is read of the whole text is what is read of the lines that are left
abbrev pub invariant-loop-rest : goal.invariant-loop-rest
invariant-loop-rest l = record {
  same : log_of l.text ≡ messages l.number l.log (lines_of l.rest);
  fits : l.number + length l.rest ≤ length l.text;
  can : CanLog l.log;
  none : l.events.items ≡ [];
}

abbrev pub decreases-loop-rest : goal.decreases-loop-rest
decreases-loop-rest l = length l.rest
