-- Private: how the code sets a terminal up that plays a recording.
use Rattle.tape_check.specs.declared.played.PlayedAs.{PlayedAs}
use Rattle.tape_check.specs.declared.played.PlayedAs.TheVariants as played
use Rattle.tape_jobs.specs.declared.player.Setup.{Setup}
use Rattle.tape_jobs.specs.declared.player.Setup.TheVariants.{Vt, Today}

-- as what it plays (ours)
abbrev pub set_as : Setup → PlayedAs
set_as (Vt profile) = played.Vt profile
set_as (Today size) = played.Today size.columns size.lines
