use Rattle.std.proofs.Common.{◌≤◌, ◌-◌, IfSome, length}
use Rattle.tape_core.specs.Devices.{Gave}
use Rattle.tape_seek.specs.Moments.{up_to}
use Rattle.vt_term.specs.declared.profile.Profile.{Profile}
use Rattle.vt_term.specs.Seen.{Shows}
use Rattle.screen_print.specs.EachByte.{chunk_lines_at}
use Rattle.screen_print.specs.Kept.{IsKeptOf}
use Rattle.screen_print.specs.Skim.{IsLacked}
use Rattle.chunk_walk.proofs.TextLemmas.{texts_from}
use Rattle.screen_print.proofs.each_byte.put_rest.Given as goal

-- the chunks so far were played, and their lines have gone out
abbrev pub invariant-loop-index : goal.invariant-loop-index
invariant-loop-index g l = record {
  shows : (profile : Profile) → Shows l.fn.terminal (up_to profile l.recording.chunks l.start) → Shows l.terminal (up_to profile l.recording.chunks l.index);
  scratch : 20 ≤ length l.scratch.bytes;
  known : IfSome l.known (λ key. IsLacked l.text key.now l.terminal.console.picture);
  kept : IsKeptOf l.terminal l.kept;
  gave : (profile : Profile) → Shows l.fn.terminal (up_to profile l.recording.chunks l.start) → Gave g.W.Write.contents l.fn.writer l.writer
      (texts_from (chunk_lines_at l.text profile l.recording) l.start (l.index - l.start));
}
