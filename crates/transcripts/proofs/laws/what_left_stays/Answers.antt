use Rattle.transcripts.proofs.LeftLemmas.{tells_the_rest}
use Rattle.transcripts.proofs.laws.what_left_stays.Goals as goal

pub returns : goal.returns
returns g c profile tape start end le =
    tells_the_rest g.T.Transcribes.leaving profile (c.laws.ensures.parts profile) tape g.T.Transcribes.standing start end le
