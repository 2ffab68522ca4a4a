-- A state text is the one of the moment whose terminal is shown.
use Rattle.std.proofs.Common.{◌≡◌, ℕ}
use Rattle.screen_state.proofs.Cutting.{text_is}
use Rattle.screen_state.specs.Remade.{text_after}
use Rattle.screen_state.specs.StateText.{state_text}
use Rattle.tape_core.specs.Due.{due}
use Rattle.tape_core.specs.Tape.{Tape}
use Rattle.tape_seek.specs.Moments.{term_at}
use Rattle.vt_term.specs.Seen.{Seen, Shows}
use Rattle.vt_term.specs.declared.profile.Profile.{Profile}
use Rattle.xterm_print.specs.Moments.{term_at as today_at}
use Rattle.xterm_state.proofs.Cutting.{text_is as text_is_today}
use Rattle.xterm_state.specs.Remade.{text_after as today_after}
use Rattle.xterm_state.specs.StateText.{state_text as today_text}
use Rattle.xterm_term.specs.Seen.{Seen as TodaySeen, Shows as TodayShows}
use Rattle.xterm_term.specs.declared.measure.Size.{Size}

pub state_of_vt : (profile : Profile) (tape : Tape) (at : ℕ) (seen : Seen) → Shows seen (term_at profile tape at)
    → state_text seen.console seen.state ≡ text_after profile (due tape.chunks at)
state_of_vt profile tape at seen shows = text_is profile (due tape.chunks at) seen shows

pub state_of_today : (size : Size) (tape : Tape) (at : ℕ) (seen : TodaySeen) → TodayShows seen (today_at size tape at)
    → today_text seen.console seen.state seen.character ≡ today_after size.columns size.lines (due tape.chunks at)
state_of_today size tape at seen shows = text_is_today size.columns size.lines (due tape.chunks at) seen shows
