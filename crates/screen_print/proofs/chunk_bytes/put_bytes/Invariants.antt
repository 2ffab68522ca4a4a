use Rattle.std.proofs.Common.{◌≡◌, ◌-◌, ◌≤◌, length, take}
use Rattle.tape_core.specs.Devices.{Gave}
use Rattle.vt_term.specs.Seen.{Shows}
use Rattle.vt_term.specs.Term.{Term, play}
use Rattle.screen_print.specs.EachByte.{byte_lines}
use Rattle.screen_print.specs.FindLines.{standing}
use Rattle.screen_print.specs.Stills.{still_of}
use Rattle.chunk_walk.proofs.TextLemmas.{texts_from}
use Rattle.screen_print.proofs.chunk_bytes.put_bytes.Given as goal

-- the bytes so far were played, and their lines have gone out
abbrev pub invariant-loop-at : goal.invariant-loop-at
invariant-loop-at g l = record {
  within : l.at ≤ length l.bytes;
  shows : (x : Term) → Shows l.fn.terminal x → Shows l.terminal (play x (take l.at l.bytes));
  scratch : 20 ≤ length l.scratch.bytes;
  before : l.before ≡ still_of l.terminal.console;
  after : l.after ≡ still_of l.terminal.console;
  gave : (x : Term) → Shows l.fn.terminal x → Gave g.W.Write.contents l.fn.writer l.writer
      (texts_from (byte_lines l.sought.text.now l.chunk.index l.chunk.due l.ends.first.now (standing l.sought.text.now l.ends.first.now)
      l.ends.last.now (standing l.sought.text.now l.ends.last.now) x l.bytes) 0 l.at);
}

abbrev pub decreases-loop-at : goal.decreases-loop-at
decreases-loop-at g l = length l.bytes - l.at
