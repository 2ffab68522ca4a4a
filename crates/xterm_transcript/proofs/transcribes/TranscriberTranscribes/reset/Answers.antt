use Rattle.std.proofs.Common.{Some, refl, ap, sym, ◌∙◌}
use Rattle.vt_parser.proofs.Agrees.{ground_is_empty}
use Rattle.xterm_transcript.specs.Transcribed.{play_on}
use Rattle.xterm_transcript.proofs.transcribes.TranscriberTranscribes.reset.Goals as goal

pub returns : goal.returns
unfolding play_on
returns c = record { shows = c.in_ok-terminal.ensures.shows; state = ground_is_empty.0 _ ∙ ap Some (sym c.new.ensures); home = refl }
