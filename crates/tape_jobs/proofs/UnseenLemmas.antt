-- Neither a cut nor an excerpt shows, of whichever terminal plays: by the laws of each.
use Rattle.std.proofs.Common.{◌≡◌, ℕ, ◌<◌, Option, subst}
use Rattle.command_line.specs.declared.player.Measure.{Measure}
use Rattle.screen_state.specs.Remade.{text_after}
use Rattle.tape_check.specs.declared.played.PlayedAs.{PlayedAs}
use Rattle.tape_check.specs.declared.played.PlayedAs.TheVariants as played
use Rattle.tape_core.specs.Due.{due}
use Rattle.tape_core.specs.Tape.{Tape}
use Rattle.tape_cut.specs.CutEdits.{cut_edits, excerpt_edits}
use Rattle.tape_cut.specs.Law.{CutIsUnseen, ExcerptIsUnseen}
use Rattle.tape_jobs.specs.Moment.{state_at}
use Rattle.tape_jobs.specs.Player.{played_of}
use Rattle.tape_jobs.specs.Unseen.{CutIsUnseenAs, CutsAreUnseen, ExcerptIsUnseenAs, ExcerptsAreUnseen}
use Rattle.tape_seek.specs.Edits.{edited_all}
use Rattle.vt_term.specs.contracts.playing.TerminalPlays.TheImpl as vt
use Rattle.vt_term.specs.declared.profile.Profile.{Profile}
use Rattle.xterm_state.specs.Remade.{text_after as today_after}
use Rattle.xterm_term.specs.contracts.playing.TerminalPlays.TheImpl as today
use Rattle.xterm_term.specs.declared.measure.Size.{Size}

-- ---- cuts

abbrev CutOnVt : Type 0
CutOnVt =
    (profile : Profile) (from to : ℕ) (tape : Tape) → from < to
    → CutIsUnseen vt.ghosts profile from to tape
    (edited_all tape (cut_edits from to (text_after profile (due tape.chunks to)) tape))

abbrev CutOnToday : Type 0
CutOnToday =
    (size : Size) (from to : ℕ) (tape : Tape) → from < to
    → CutIsUnseen today.ghosts size from to tape
    (edited_all tape (cut_edits from to (today_after size.columns size.lines (due tape.chunks to)) tape))

module _ (on_vt : CutOnVt) (on_today : CutOnToday) where
  cut_as : (as_played : PlayedAs) (from to : ℕ) (tape : Tape) → from < to
      → CutIsUnseenAs as_played from to tape (edited_all tape (cut_edits from to (state_at as_played tape to) tape))
  unfolding state_at
  cut_as (played.Vt profile) from to tape rising = on_vt profile from to tape rising
  cut_as (played.Today columns lines) from to tape rising =
      λ size is. subst (λ (m : Measure). CutIsUnseen today.ghosts size from to tape
      (edited_all tape (cut_edits from to (today_after m.columns m.lines (due tape.chunks to)) tape)))
      is (on_today size from to tape rising)

  pub cuts_unseen : CutsAreUnseen
  cuts_unseen from to player tape rising = cut_as (played_of player tape) from to tape rising

-- ---- excerpts

abbrev ExcerptOnVt : Type 0
ExcerptOnVt =
    (profile : Profile) (from : ℕ) (to : Option ℕ) (tape : Tape)
    → ExcerptIsUnseen vt.ghosts profile from to tape
    (edited_all tape (excerpt_edits from to (text_after profile (due tape.chunks from)) tape))

abbrev ExcerptOnToday : Type 0
ExcerptOnToday =
    (size : Size) (from : ℕ) (to : Option ℕ) (tape : Tape)
    → ExcerptIsUnseen today.ghosts size from to tape
    (edited_all tape (excerpt_edits from to (today_after size.columns size.lines (due tape.chunks from)) tape))

module _ (on_vt : ExcerptOnVt) (on_today : ExcerptOnToday) where
  excerpt_as : (as_played : PlayedAs) (from : ℕ) (to : Option ℕ) (tape : Tape)
      → ExcerptIsUnseenAs as_played from to tape
      (edited_all tape (excerpt_edits from to (state_at as_played tape from) tape))
  unfolding state_at
  excerpt_as (played.Vt profile) from to tape = on_vt profile from to tape
  excerpt_as (played.Today columns lines) from to tape =
      λ size is. subst (λ (m : Measure). ExcerptIsUnseen today.ghosts size from to tape
      (edited_all tape (excerpt_edits from to (today_after m.columns m.lines (due tape.chunks from)) tape)))
      is (on_today size from to tape)

  pub excerpts_unseen : ExcerptsAreUnseen
  excerpts_unseen from to player tape = excerpt_as (played_of player tape) from to tape
