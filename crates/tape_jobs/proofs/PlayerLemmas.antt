-- A terminal of today of a size tells what its crates say of one, and any size that plays a recording is one of a terminal.
use Rattle.std.proofs.Common.{◌≡◌, ℕ, Bool, true, false, List, [], Option, Some, refl, ap, sym, ◌∙◌, subst, unwrap_or, if◌then◌else◌, None, arith}
use Rattle.std.proofs.lemmas.Bool.Decides.{nat_tests}
use Rattle.std.specs.Option.{option_or}
use Rattle.chunk_walk.specs.Walk.{asked_texts}
use Rattle.tape_check.specs.Header.{told_profile}
use Rattle.tape_check.specs.declared.played.PlayedAs.TheVariants as played
use Rattle.tape_core.specs.Tape.{Tape}
use Rattle.tape_jobs.specs.Player.{NowhereFor, NowhereMeansNowhere, changes_of, found_of, measure_of, played_size, today_lines, told_measure, told_player, today_shown, usual_measure, within}
use Rattle.tape_jobs.specs.Texts.{transcript_of}
use Rattle.command_line.specs.Measures.{is_size}
use Rattle.command_line.specs.declared.player.Measure.{Measure}
use Rattle.command_line.specs.declared.player.Player.TheVariants.{Vt, Today, Auto}
use Rattle.screen_print.specs.EachByte.{NowhereMeansNowhere as NowhereOnVt, has_ink}
use Rattle.text_find.specs.FindLines.{NowhereOn, all_found, found_from, found_in, lines_found}
use Rattle.vt_term.specs.declared.profile.Profile.{Profile}
use Rattle.xterm_print.specs.ChangeLines.{change_lines}
use Rattle.xterm_print.specs.FindLines.{NowhereMeansNowhere as NowhereOnToday, find_lines}
use Rattle.xterm_term.specs.Size.{IsSize}
use Rattle.xterm_term.specs.declared.measure.Size.{Size}
use Rattle.xterm_transcript.specs.Transcribed.{leaving_rows, standing_rows}
use Rattle.transcripts.specs.Transcript.{left_between, transcript}

pub changes_of_size : (size : Size) (tape : Tape) (from : Option ℕ) (to : ℕ)
    → changes_of (played.Today size.columns size.lines) tape from to ≡ change_lines size tape from to
unfolding changes_of change_lines today_lines asked_texts
changes_of_size size tape from to = refl

pub found_of_size : (size : Size) (tape : Tape) (from : Option ℕ) (to : ℕ) (text : List ℕ)
    → found_of (played.Today size.columns size.lines) tape from to text ≡ find_lines size tape from to text
unfolding found_of find_lines lines_found all_found found_from found_in
found_of_size size tape from to text = refl

pub transcript_of_size : (size : Size) (tape : Tape) (from to : Option ℕ)
    → transcript leaving_rows standing_rows size tape from to ≡ transcript_of (played.Today size.columns size.lines) tape from to
unfolding transcript_of transcript left_between standing_rows
transcript_of_size size tape from to = refl

-- ---- any size that plays a recording is one of a terminal

is_some : (b : Bool) (m got : Measure) → (if b then Some m else None) ≡ Some got → b ≡ is_size m → is_size got ≡ true
is_some true m got e is = subst (λ g. is_size g ≡ true) (ap (λ (o : Option Measure). unwrap_or o m) e) (sym is)
is_some false m got e is = absurd (cc)

within_fits : (asked : Option Measure) (got : Measure) → within asked ≡ Some got → is_size got ≡ true
within_fits None got e = absurd (cc)
within_fits (Some m) got e = is_some (is_size m) m got e refl

either_fits : (one other : Option Measure) → ((m : Measure) → one ≡ Some m → is_size m ≡ true)
    → ((m : Measure) → other ≡ Some m → is_size m ≡ true) → is_size (unwrap_or (option_or one other) usual_measure) ≡ true
either_fits (Some m) other f g = f m refl
either_fits None (Some m) f g = g m refl
either_fits None None f g = refl

sound_size : (m : Measure) → is_size m ≡ true → IsSize m.columns m.lines
sound_size m e = record {
  columns_low = grind (arith, nat_tests);
  columns_high = grind (arith, nat_tests);
  lines_low = grind (arith, nat_tests);
  lines_high = grind (arith, nat_tests);
}

size_played : (asked : Option Measure) (tape : Tape) → (size : Size) × (measure_of size ≡ played_size asked tape)
size_played asked tape =
    let m = played_size asked tape in (
      record {
        columns = m.columns;
        lines = m.lines;
        sound = sound_size m (either_fits (within asked) (within (told_measure tape)) (within_fits asked) (within_fits (told_measure tape)));
      },
      refl,
    )

-- where no line is written, of whichever terminal, the text stands nowhere
module _ (on_vt : NowhereOnVt) (on_today : NowhereOnToday) where
  nowhere_today : (size : Size) (m : Measure) (tape : Tape) (from : Option ℕ) (to : ℕ) (text : List ℕ) → measure_of size ≡ m
      → has_ink text ≡ true → lines_found today_shown m tape from to text ≡ [] → NowhereOn today_shown m tape from to text
  unfolding find_lines lines_found all_found found_from found_in
  nowhere_today size m tape from to text is ink none =
      let law = on_today size tape from to text ink (ap (λ s. lines_found today_shown s tape from to text) is ∙ none) in
      subst (λ s. NowhereOn today_shown s tape from to text) is (record { start = law.start; within = law.within })

  -- by the size that is asked for or told
  nowhere_sized : (asked : Option Measure) (told tape : Tape) (from : Option ℕ) (to : ℕ) (text : List ℕ) → has_ink text ≡ true
      → lines_found today_shown (played_size asked told) tape from to text ≡ []
      → NowhereOn today_shown (played_size asked told) tape from to text
  nowhere_sized asked told tape from to text ink none =
      let size = size_played asked told in
      nowhere_today size.0 (played_size asked told) tape from to text size.1 ink none

  -- by the profile that is told
  nowhere_told : (profile : Option Profile) (asked : Option Measure) (told tape : Tape) (from : Option ℕ) (to : ℕ) (text : List ℕ)
      → has_ink text ≡ true → found_of (told_player profile (played_size asked told)) tape from to text ≡ []
      → NowhereFor (told_player profile (played_size asked told)) tape from to text
  unfolding found_of
  nowhere_told (Some profile) asked told tape from to text ink none = on_vt profile tape from to text ink none
  nowhere_told None asked told tape from to text ink none = nowhere_sized asked told tape from to text ink none

  pub nowhere_for : NowhereMeansNowhere
  unfolding found_of
  nowhere_for (Vt profile) told tape from to text ink none = on_vt profile tape from to text ink none
  nowhere_for (Today asked) told tape from to text ink none = nowhere_sized asked told tape from to text ink none
  nowhere_for (Auto asked) told tape from to text ink none =
      nowhere_told (told_profile told) asked told tape from to text ink none
