use Rattle.std.proofs.Common.{◌≡◌, ◌+◌, ◌≤◌, length}
use Rattle.tape_core.specs.Text.{lines_of}
use Rattle.tape_import.specs.Asciicast.{asciicast_of, events}
use Rattle.tape_import.specs.KeptCast.{HasSizes, IsCounted}
use Rattle.tape_import.proofs.asciicast.read_cast.Given as goal

-- what is read of the whole text is what is read of the lines that are left
abbrev pub invariant-loop-rest : goal.invariant-loop-rest
invariant-loop-rest l = record {
  same : asciicast_of l.version l.text ≡ events l.version l.number l.cast (lines_of l.rest);
  fits : l.number + length l.rest ≤ length l.text;
  counted : IsCounted l.number l.cast;
  sizes : HasSizes l.cast;
}

abbrev pub decreases-loop-rest : goal.decreases-loop-rest
decreases-loop-rest l = length l.rest
