use Rattle.std.proofs.Common.{subst, sym}
use Rattle.std.specs.Prelude.{OnOk}
use Rattle.screen_transcript.specs.Playing.{IsPlayed}
use Rattle.screen_transcript.specs.Transcribed.{Transcribed, play_on, reset_as}
use Rattle.screen_transcript.proofs.PartLemmas.{plays_parts}
use Rattle.screen_transcript.proofs.transcribes.TranscriberTranscribes.pass.Goals as goal

pub returns : goal.returns
returns c profile before is =
    subst (λ (y : Transcribed). OnOk c.pass_over.result (IsPlayed c.pass_over.new.self y)) (sym (plays_parts (reset_as profile) before c.args.bytes.now))
    (c.pass_over.ensures (play_on (reset_as profile) before) is)
