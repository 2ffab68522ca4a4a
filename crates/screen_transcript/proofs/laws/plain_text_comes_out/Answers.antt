use Rattle.screen_transcript.proofs.PlainSteps.{comes_out}
use Rattle.screen_transcript.proofs.laws.plain_text_comes_out.Goals as goal

pub returns : goal.returns
returns c = comes_out
