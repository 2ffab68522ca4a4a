use Rattle.std.proofs.Common.{◌≡◌, ◌++◌, ℕ, List, []}
use Rattle.tape_core.specs.Devices.{Gave}
use Rattle.output_cast.proofs.EventLemmas.{lines_from}
use Rattle.output_cast.proofs.events.put_events.Given as goal

-- a text has gone out, and with the lines of the chunks from here on it is the whole
abbrev pub invariant-loop-index : goal.invariant-loop-index
invariant-loop-index g l =
    (text : List ℕ) × Gave g.W.Write.contents l.fn.writer l.writer text
    × (text ++ lines_from l.fn.recording.chunks l.index l.decoder ≡ lines_from l.fn.recording.chunks 0 [])
