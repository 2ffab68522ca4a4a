use Rattle.std.proofs.Common.{ap, ◌∙◌}
use Rattle.seek_tests.specs.Strip.{blank, play}
use Rattle.seek_tests.proofs.strip.StripPlays.clear.Goals as goal

pub returns : goal.returns
unfolding play
returns c = λ fits. c.blank.ensures ∙ ap blank fits
