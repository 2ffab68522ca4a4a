use Rattle.std.proofs.Common.{subst}
use Rattle.screen_print.specs.Stills.{IsStill}
use Rattle.screen_print.proofs.still.Still.sound.Goals as goal

pub returns : goal.returns
returns c = subst IsStill c.self.view_is c.self.invariant
