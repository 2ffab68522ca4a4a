use Rattle.std.proofs.Common.{◌≡◌, ◌<◌, ◌-◌, false, length}
use Rattle.screen_transcript.proofs.PassLemmas.{Telling}
use Rattle.screen_transcript.proofs.transcriber.Transcriber.tell_on.Given as goal

-- the bytes so far were played, and the rows that leave at them told
abbrev pub invariant-loop-stays : goal.invariant-loop-stays
invariant-loop-stays g l = record {
  telling : Telling g.W.Write.contents l.fn.writer l.fn.rows l.fn.self l.writer l.rows l.self l.bytes l.taken;
  some : l.stays ≡ false → 0 < l.taken;
}

abbrev pub decreases-loop-stays : goal.decreases-loop-stays
decreases-loop-stays g l = length l.bytes - l.taken
