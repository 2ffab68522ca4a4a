use Rattle.std.proofs.Common.{Some, refl, ap, sym, ◌∙◌}
use Rattle.vt_parser.proofs.Agrees.{ground_is_empty}
use Rattle.screen_transcript.specs.Transcribed.{play_on}
use Rattle.screen_transcript.proofs.transcribes.TranscriberTranscribes.reset.Goals as goal

pub returns : goal.returns
unfolding play_on
returns c = record { console = sym c.reset_as.ensures; state = ground_is_empty.0 _ ∙ ap Some (sym c.new.ensures); home = refl }
