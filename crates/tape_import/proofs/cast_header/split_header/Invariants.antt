use Rattle.std.proofs.Common.{◌≡◌, ◌+◌, ◌≤◌, length}
use Rattle.tape_core.specs.Text.{lines_of}
use Rattle.tape_import.specs.Asciicast.{header_line, past_header}
use Rattle.tape_import.proofs.cast_header.split_header.Given as goal

-- the lines so far are space alone
abbrev pub invariant-loop-rest : goal.invariant-loop-rest
invariant-loop-rest l = record {
  all : l.count + length (lines_of l.rest) ≡ length (lines_of l.text);
  fits : l.count + length l.rest ≤ length l.text;
  line : header_line (lines_of l.text) ≡ header_line (lines_of l.rest);
  past : past_header (lines_of l.text) ≡ past_header (lines_of l.rest);
}

abbrev pub decreases-loop-rest : goal.decreases-loop-rest
decreases-loop-rest l = length l.rest
