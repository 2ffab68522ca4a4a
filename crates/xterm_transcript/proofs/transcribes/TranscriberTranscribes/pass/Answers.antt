use Rattle.std.proofs.Common.{subst, sym}
use Rattle.std.specs.Prelude.{OnOk}
use Rattle.xterm_transcript.specs.Playing.{IsPlayed}
use Rattle.xterm_transcript.specs.Transcribed.{Transcribed, play_on, reset_of}
use Rattle.xterm_transcript.proofs.PartLemmas.{plays_parts}
use Rattle.xterm_transcript.proofs.transcribes.TranscriberTranscribes.pass.Goals as goal

pub returns : goal.returns
returns c profile before is =
    subst (λ (y : Transcribed). OnOk c.pass_over.result (IsPlayed c.pass_over.new.self y)) (sym (plays_parts (reset_of profile) before c.args.bytes.now))
    (c.pass_over.ensures (play_on (reset_of profile) before) is)
