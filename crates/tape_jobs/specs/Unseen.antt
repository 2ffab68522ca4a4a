-- What `cut` and `excerpt` make of a recording doesn't show, whichever terminal plays it (ours).
use Rattle.std.specs.Prelude.{◌≡◌, ℕ, ◌<◌, Option}
use Rattle.command_line.specs.declared.player.Player.{Player}
use Rattle.tape_check.specs.declared.played.PlayedAs.{PlayedAs}
use Rattle.tape_check.specs.declared.played.PlayedAs.TheVariants as played
use Rattle.tape_core.specs.Tape.{Tape}
use Rattle.tape_cut.specs.Law.{CutIsUnseen, ExcerptIsUnseen}
use Rattle.tape_jobs.specs.Output.{edits_of_cut, edits_of_excerpt}
use Rattle.tape_jobs.specs.Player.{measure_of, played_of, sized}
use Rattle.tape_seek.specs.Edits.{edited_all}
use Rattle.vt_term.specs.contracts.playing.TerminalPlays.TheImpl as vt
use Rattle.xterm_term.specs.contracts.playing.TerminalPlays.TheImpl as today
use Rattle.xterm_term.specs.declared.measure.Size.{Size}

-- of a VT100, or of any terminal of today of this size (ours)
abbrev pub CutIsUnseenAs : PlayedAs → ℕ → ℕ → Tape → Tape → Type 0
CutIsUnseenAs (played.Vt profile) from to old new = CutIsUnseen vt.ghosts profile from to old new
CutIsUnseenAs (played.Today columns lines) from to old new =
    (size : Size) → measure_of size ≡ sized columns lines → CutIsUnseen today.ghosts size from to old new

abbrev pub ExcerptIsUnseenAs : PlayedAs → ℕ → Option ℕ → Tape → Tape → Type 0
ExcerptIsUnseenAs (played.Vt profile) from to old new = ExcerptIsUnseen vt.ghosts profile from to old new
ExcerptIsUnseenAs (played.Today columns lines) from to old new =
    (size : Size) → measure_of size ≡ sized columns lines → ExcerptIsUnseen today.ghosts size from to old new

-- of what plays the recording for the job (ours)
abbrev pub CutsAreUnseen : Type 0
CutsAreUnseen =
    (from to : ℕ) (player : Player) (tape : Tape) → from < to
    → CutIsUnseenAs (played_of player tape) from to tape (edited_all tape (edits_of_cut from to player tape))

abbrev pub ExcerptsAreUnseen : Type 0
ExcerptsAreUnseen =
    (from : ℕ) (to : Option ℕ) (player : Player) (tape : Tape)
    → ExcerptIsUnseenAs (played_of player tape) from to tape (edited_all tape (edits_of_excerpt from to player tape))
