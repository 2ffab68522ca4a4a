use Rattle.std.proofs.Common.{length}
use Rattle.plays.specs.Sink.{KeepsFront}
use Rattle.xterm_term.specs.SameSize.{SameSize}
use Rattle.xterm_term.specs.Seen.{KeepsTold}
use Rattle.xterm_term.proofs.Feeding.{Fed}
use Rattle.xterm_term.proofs.terminal.Terminal.take_all.Given as goal

-- the bytes so far were played, and the replies to them were sent
abbrev pub invariant-loop-rest : goal.invariant-loop-rest
invariant-loop-rest l = record {
  fed : Fed l.initial.self l.self l.initial.sink l.sink l.bytes l.rest;
  front : KeepsFront l.initial.sink l.sink;
  size : SameSize l.initial.self.console l.self.console;
  told : KeepsTold l.initial.self l.self;
}

abbrev pub decreases-loop-rest : goal.decreases-loop-rest
decreases-loop-rest l = length l.rest
