use Rattle.std.proofs.Common.{◌∙◌, sym}
use Rattle.std.proofs.lemmas.Bool.{false≢true}
use Rattle.text_find.proofs.foretold.trail_unless.Goals as goal

pub returns-then-calm-clause-stood : goal.returns-then-calm-clause-stood
returns-then-calm-clause-stood c = λ no text screen is trails. absurd (false≢true (sym no ∙ c.if-calm.true))

pub returns-clause-stood : goal.returns-clause-stood
returns-clause-stood c = λ no text screen is trails. c.trail.ensures.stood text screen is trails
