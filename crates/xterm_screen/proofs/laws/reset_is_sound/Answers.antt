use Rattle.xterm_screen.proofs.Soundness.{sound_reset}
use Rattle.xterm_screen.proofs.laws.reset_is_sound.Goals as goal

pub returns-clause-sound : goal.returns-clause-sound
returns-clause-sound c = sound_reset
