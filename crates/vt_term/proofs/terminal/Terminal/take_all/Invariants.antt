use Rattle.std.proofs.Common.{List, length}
use Rattle.vt_screen.specs.declared.cell.Row.{Row}
use Rattle.vt_term.specs.Seen.{Told}
use Rattle.plays.specs.Sink.{KeepsFront}
use Rattle.vt_term.proofs.Feeding.{Fed}
use Rattle.vt_term.proofs.terminal.Terminal.take_all.Given as goal

-- the bytes so far were played, and the replies to them were sent
abbrev pub invariant-loop-rest : goal.invariant-loop-rest
invariant-loop-rest l = record {
  fed : Fed l.initial.self l.self l.initial.sink l.sink l.bytes l.rest;
  front : KeepsFront l.initial.sink l.sink;
  told : (before : List Row) → Told before l.initial.self → Told before l.self;
}

abbrev pub decreases-loop-rest : goal.decreases-loop-rest
decreases-loop-rest l = length l.rest
