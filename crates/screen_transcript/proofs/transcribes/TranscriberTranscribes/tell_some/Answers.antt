use Rattle.std.proofs.Common.{take, subst, sym}
use Rattle.screen_transcript.specs.Playing.{IsPlayed}
use Rattle.screen_transcript.specs.Transcribed.{play_on, reset_as}
use Rattle.screen_transcript.proofs.PartLemmas.{plays_parts}
use Rattle.screen_transcript.proofs.transcribes.TranscriberTranscribes.tell_some.Goals as goal

pub returns-clause-played : goal.returns-clause-played
returns-clause-played g c profile before is =
    subst (IsPlayed c.tell_on.new.self) (sym (plays_parts (reset_as profile) before (take c.in_ok-taken.taken c.args.bytes.now)))
    (c.in_ok-taken.ensures.played (play_on (reset_as profile) before) is)

pub returns-clause-tells : goal.returns-clause-tells
returns-clause-tells g c profile before is = c.in_ok-taken.ensures.tells (play_on (reset_as profile) before) is
