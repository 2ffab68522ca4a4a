-- The state text makes of any terminal the one that it was made of.
use Rattle.std.proofs.Common.{◌≡◌, ℕ, Bool, false, List, [], ◌++◌, drop, refl, sym, ap, ap₂, subst, ◌∙◌}
use Rattle.std.specs.Prelude.{Some}
use Rattle.vt_parser.specs.declared.commands.Mode.TheVariants.{Ansi}
use Rattle.vt_parser.specs.View.{parser_view}
use Rattle.vt_screen.specs.Cells.{blank_row, rows_by}
use Rattle.vt_term.specs.declared.profile.Profile.{Profile}
use Rattle.vt_term.specs.Console.{Console, reset_console}
use Rattle.vt_term.specs.Printing.{Brings}
use Rattle.vt_term.specs.Seen.{Shows}
use Rattle.vt_term.specs.Term.{Term, play, sent}
use Rattle.vt_term.proofs.Steps.{plays_in_parts, sends_in_parts}
use Rattle.screen_print.specs.EscapedText.{first_pen, lines_text}
use Rattle.screen_print.proofs.Redrawn.{all_bring, drawing}
use Rattle.parser_state.specs.PendingText.{pending_text}
use Rattle.screen_state.specs.StateText.{anew_text, canvas_text, opening_text, closing_text, state_text}
use Rattle.screen_state.specs.Remade.{MakesAnyThis}
use Rattle.screen_state.proofs.Anew.{anew_brings, makes}
use Rattle.screen_state.proofs.Below.{below, joined}
use Rattle.screen_state.proofs.Canvas.{based, canvas_brings}
use Rattle.screen_state.proofs.ClosingLemmas.{on, cursor_brings}
use Rattle.screen_state.proofs.Kept.{saving, saved_brings, in_force_brings}
use Rattle.screen_state.proofs.Modes.{with_modes, modes_bring, leds_bring, vt52_brings}
use Rattle.screen_state.proofs.PendingLemmas.{leaves_pending}
use Rattle.screen_state.proofs.Reached.{IsWhole, whole_of_reset}
use Rattle.screen_state.proofs.Stops.{stops_bring}

-- all but what is pending, from any console of the profile
text_brings : (x s : Console) → x.profile ≡ s.profile → IsWhole s
    → Brings x (opening_text s ++ lines_text first_pen 1 s.picture.rows ++ closing_text s) s
text_brings x s profile whole =
    let sound = whole.safe.sound in
    let p = s.picture in
    let modes = s.modes in
    let c = based s.profile p.wide p.tabs s.saved in
    let anew = subst (λ (q : Profile). Brings x anew_text (reset_console q)) profile (anew_brings x) in
    let stops = stops_bring s.profile p.tabs sound.tabs in
    let kept = saved_brings s.profile p.tabs stops.0 s.saved whole.safe.saved whole.reached.saved in
    let canvas =
    subst (λ (tabs : List Bool). Brings (saving s.profile kept.0 kept.2 kept.3 kept.4 kept.5 kept.6 s.saved) (canvas_text p.wide)
    (drawing (based s.profile p.wide tabs s.saved) (rows_by (λ _. blank_row)) 1 1 first_pen)) kept.1
    (canvas_brings s.profile kept.0 kept.3 kept.4 kept.5 kept.6 s.saved kept.2 p.wide) in
    let lines = all_bring below c p.rows sound.rows sound.row in
    let cursor = cursor_brings c p modes lines.0 lines.1 lines.2.rendition lines.2.invoked sound whole.safe.inside whole.reached.wrap in
    let placed = on c p modes.origin modes.autowrap cursor.0 cursor.1 in
    let with_sets : Console = record placed { rendition = s.rendition; sets = record s.sets { vt52_graphics = false } } in
    let opening = joined (joined (joined anew stops.1) kept.7) canvas in
    let closing =
    joined (joined (joined (joined cursor.2
    (in_force_brings placed s.rendition s.sets.g0 s.sets.g1 s.sets.invoked refl))
    (modes_bring with_sets modes whole.reached.insert))
    (leds_bring (with_modes (record modes { mode = Ansi }) with_sets) refl s.leds whole.safe.leds))
    (vt52_brings s modes.mode s.sets.vt52_graphics) in
    joined (joined opening lines.3) closing

pub makes_any_this : MakesAnyThis
unfolding state_text
makes_any_this seen y x comes shows same =
    let s = seen.console in
    let whole : IsWhole s = subst IsWhole shows.console (subst (λ (t : Term). IsWhole t.console) (sym comes.2) (whole_of_reset comes.0 comes.1)) in
    let profiles : x.console.profile ≡ s.profile = same ∙ ap (λ (t : Console). t.profile) shows.console in
    let text = opening_text s ++ lines_text first_pen 1 s.picture.rows ++ closing_text s in
    let pending = pending_text seen.state in
    let done = makes x s (drop 1 text) (text_brings x.console s profiles whole) in
    let is : parser_view s.modes.mode y.pending ≡ Some seen.state = ap (λ (t : Console). parser_view t.modes.mode y.pending) (sym shows.console) ∙ shows.state in
    let left = leaves_pending s seen.state y.pending is in
    let after : Term = record { console = s; pending = left.pending; reports = x.reports } in
    let played : play x (text ++ pending) ≡ after =
    plays_in_parts x text pending ∙ ap (λ (t : Term). play t pending) done.0 ∙ left.played x.reports in
    let silent : sent x (text ++ pending) ≡ [] =
    sends_in_parts x text pending ∙ ap₂ (λ (l : List ℕ) (t : Term). l ++ sent t pending) done.1 done.0 ∙ left.silent x.reports in
    let there : Shows seen after = record { console = refl; state = left.view } in
    (subst (Shows seen) (sym played) there, silent)
