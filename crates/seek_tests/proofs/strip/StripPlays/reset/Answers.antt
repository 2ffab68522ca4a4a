use Rattle.std.proofs.Common.{rules}
use Rattle.seek_tests.specs.Strip.{play}
use Rattle.seek_tests.proofs.strip.StripPlays.reset.Goals as goal

pub returns : goal.returns
unfolding play
returns c = search rules
