use Rattle.std.proofs.Common.{◌≡◌, ◌+◌, ◌≤◌, length}
use Rattle.std.specs.Prelude.{count_by}
use Rattle.tape_core.specs.Text.{lines_of}
use Rattle.tape_check.specs.Header.{is_scripts}
use Rattle.tape_check.proofs.trailer.sessions_in.Given as goal

-- the sessions that were passed, and those of what is left
abbrev pub invariant-loop-rest : goal.invariant-loop-rest
invariant-loop-rest l = record {
  counted : count_by is_scripts (lines_of l.trailer) ≡ l.count + count_by is_scripts (lines_of l.rest);
  fits : l.count + length l.rest ≤ length l.trailer;
}

abbrev pub decreases-loop-rest : goal.decreases-loop-rest
decreases-loop-rest l = length l.rest
