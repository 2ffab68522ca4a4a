-- The state text makes of any terminal the one that it was made of.
use Rattle.std.proofs.Common.{◌≡◌, ℕ, true, false, List, [], ◌∷◌, ◌++◌, length, refl, sym, ap, ap₂, subst, inl, inr, ◌∙◌, arith, append_assoc}
use Rattle.std.specs.Prelude.{Option, Some, None}
use Rattle.std.proofs.lemmas.Bool.{cases_Bool}
use Rattle.std.proofs.lemmas.List.{append-nil, length-append}
use Rattle.vt_parser.specs.declared.commands.Mode.TheVariants.{Ansi}
use Rattle.vt_parser.specs.declared.states.ParserState.{ParserState}
use Rattle.vt_parser.specs.declared.states.ParserState.TheVariants.{Ground}
use Rattle.vt_parser.specs.View.{parser_view}
use Rattle.parser_state.specs.PendingText.{pending_text}
use Rattle.xterm_screen.specs.Picture.{Picture}
use Rattle.xterm_term.specs.declared.saved.Saved.{Saved}
use Rattle.xterm_term.specs.Console.{Console, IsSafe, IsSavedWell, reset_console}
use Rattle.xterm_term.specs.Law.{StaysSafe}
use Rattle.xterm_term.specs.SameSize.{SameSize}
use Rattle.xterm_term.specs.Seen.{Shows}
use Rattle.xterm_term.specs.Size.{IsSize}
use Rattle.xterm_term.specs.Term.{Term, is_ground, play, reset_term, sent}
use Rattle.xterm_term.proofs.Runs.{on_ground}
use Rattle.xterm_term.proofs.Steps.{plays_in_parts, sent_is_appended}
use Rattle.xterm_escaped.proofs.Cells.{LawsBelow}
use Rattle.xterm_escaped.proofs.FittingTerms.{FitLaws, IsSavedRendition}
use Rattle.xterm_state.specs.StateText.{anew_text, closing_text, sheets_text, state_text, stops_text}
use Rattle.xterm_state.specs.Remade.{MakesAnyThis}
use Rattle.xterm_state.proofs.Anew.{begins_anew}
use Rattle.xterm_state.proofs.Brings.{Goes, brings_goes, gone, joined}
use Rattle.xterm_state.proofs.ClosingLemmas.{closing_settles}
use Rattle.xterm_state.proofs.Comes.{Whole, whole_of_reset}
use Rattle.xterm_state.proofs.Last.{last_goes}
use Rattle.xterm_state.proofs.Modes.{title_goes}
use Rattle.xterm_state.proofs.Pending.{front_left, leaves_pending}
use Rattle.xterm_state.proofs.Reached.{IsSavedIn}
use Rattle.xterm_state.proofs.Sheets.{IsKept, sheets_drawn}
use Rattle.xterm_state.proofs.Stops.{stops_bring}

-- nothing is appended
none_appended : (xs ys : List ℕ) → xs ≡ xs ++ ys → ys ≡ []
none_appended xs [] same = refl
none_appended xs (y ∷ ys) same = absurd (let long = ap length same ∙ length-append xs (y ∷ ys) in omega arith)

ground_is : (state : ParserState) → parser_view Ansi [] ≡ Some state → state ≡ Ground
unfolding parser_view
ground_is state is = cc

empty_is : (character : List ℕ) → is_ground character ≡ true → character ≡ []
empty_is [] is = refl
empty_is (byte ∷ rest) is = absurd cc

record Remade (x : Term) (s : Console) (state : ParserState) (character : List ℕ) (text : List ℕ) : Type 0 where
  sequence : List ℕ
  played : play x text ≡ record { console = s; sequence = sequence; character = character; reports = x.reports }
  view : parser_view Ansi sequence ≡ Some state

module _ (laws : LawsBelow) (fits : FitLaws) (safe_played : StaysSafe) where
  module _ (y : Term) (whole : Whole y) where
    abbrev s : Console
    s = y.console

    abbrev p : Picture
    p = s.picture

    size : IsSize p.columns p.lines
    size = record { columns_low = whole.safe.sound.columns_low; columns_high = whole.safe.sound.columns_high; lines_low = whole.safe.sound.lines_low; lines_high = whole.safe.sound.lines_high }

    kept : (save : Option Saved) → IsSavedWell save → IsSavedIn p.columns p.lines save → IsSavedRendition save → IsKept laws fits.ascii p.columns p.lines size p.tabs save
    kept None well in_size colours = tt
    kept (Some save) well in_size colours = (well.0, well.1, in_size, colours)

    -- all but what is pending, from a reset console
    front_goes : Goes (reset_console p.columns p.lines) (stops_text p.columns p.tabs ++ sheets_text s ++ closing_text s) s
    front_goes =
        let stops = stops_bring laws p.columns p.lines size p.tabs whole.safe.sound.tabs in
        let sheets = sheets_drawn laws fits.ascii p.columns p.lines size p.tabs p.rows p.other p.alternate s.main_saved s.alternate_saved stops.0
        (kept s.main_saved whole.safe.main_saved whole.reached.main_saved whole.fit.main_saved)
        (kept s.alternate_saved whole.safe.alternate_saved whole.reached.alternate_saved whole.fit.alternate_saved)
        whole.fit.picture.rows whole.fit.picture.other whole.fit.picture.rows_long whole.fit.picture.other_long in
        let closing = closing_settles laws fits.ascii s whole.safe whole.fit whole.reached sheets.at sheets.after sheets.wrap sheets.rendition in
        let last = last_goes laws fits.ascii s whole.safe whole.fit whole.reached s.last refl whole.stands in
        let title = title_goes (record s { title = false }) s.title refl (λ on. (whole.titled on).0) in
        brings_goes (joined stops.1 sheets.brings) (gone (gone closing last) title)

    -- and what is pending
    pending_left : (reports : List ℕ) (state : ParserState) → parser_view Ansi y.sequence ≡ Some state
        → (sequence : List ℕ) × (play (on_ground s reports) (pending_text state ++ y.character) ≡ record { console = s; sequence = sequence; character = y.character; reports = reports })
        × (parser_view Ansi sequence ≡ Some state)
    unfolding play
    pending_left reports state is = elim (cases_Bool s.title) [
      | inl title ↦
          (let alone = whole.titled title in
          let ground : state ≡ Ground = ground_is state (ap (parser_view Ansi) (sym alone.1) ∙ is) in
          ([], nothing_left reports state y.character ground alone.2, ap (parser_view Ansi) (sym alone.1) ∙ is))
      | inr untitled ↦ elim (cases_Bool (is_ground y.character)) [
        | inl none ↦
            (let empty = empty_is y.character none in
            let left = leaves_pending s state y.sequence untitled is in (
              left.pending,
              ap (λ c. play (on_ground s reports) (pending_text state ++ c)) empty ∙ ap (λ t. play (on_ground s reports) t) (append-nil (pending_text state)) ∙ left.played reports
                  ∙ ap (λ c. let x : Term = record { console = s; sequence = left.pending; character = c; reports = reports } in x) (sym empty),
              left.view,
            ))
        | inr some ↦
            (let sequence = whole.ground some in
            let ground : state ≡ Ground = ground_is state (ap (parser_view Ansi) (sym sequence) ∙ is) in (
              [],
              ap (λ (q : ParserState). play (on_ground s reports) (pending_text q ++ y.character)) ground ∙ front_left s y.character reports untitled whole.front,
              ap (parser_view Ansi) (sym sequence) ∙ is,
            ))
      ]
    ]
      where
        nothing_left : (reports : List ℕ) (state : ParserState) (character : List ℕ) → state ≡ Ground → character ≡ []
            → play (on_ground s reports) (pending_text state ++ character) ≡ record { console = s; sequence = []; character = character; reports = reports }
        nothing_left reports state character ground empty =
            ap₂ (λ (q : ParserState) (c : List ℕ). play (on_ground s reports) (pending_text q ++ c)) ground empty
            ∙ ap (λ c. let x : Term = record { console = s; sequence = []; character = c; reports = reports } in x) (sym empty)

    remade : (x : Term) (state : ParserState) → SameSize s x.console → parser_view Ansi y.sequence ≡ Some state → Remade x s state y.character (state_text s state y.character)
    unfolding state_text
    remade x state same is =
        let front = stops_text p.columns p.tabs ++ sheets_text s ++ closing_text s in
        let rest = pending_text state ++ y.character in
        let left = pending_left x.reports state is in
        let anew : play x anew_text ≡ on_ground (reset_console p.columns p.lines) x.reports =
        begins_anew x ∙ ap₂ (λ c l. on_ground (reset_console c l) x.reports) same.columns same.lines in
        let begun : play x (anew_text ++ front) ≡ on_ground s x.reports =
        plays_in_parts x anew_text front ∙ ap (λ (t : Term). play t front) anew ∙ front_goes.played x.reports in
        let text : anew_text ++ front ++ pending_text state ++ y.character ≡ (anew_text ++ front) ++ (pending_text state ++ y.character) =
        append_assoc (anew_text ++ front) (pending_text state) y.character in
        record {
          sequence = left.0;
          played = ap (λ t. play x t) text ∙ plays_in_parts x (anew_text ++ front) rest ∙ ap (λ (t : Term). play t rest) begun ∙ left.1;
          view = left.2;
        }

  pub makes_any_this : (reset_safe : (columns lines : ℕ) → IsSize columns lines → IsSafe (reset_term columns lines).console) → MakesAnyThis
  makes_any_this reset_safe seen y x comes shows same =
      let columns = comes.0 in let lines = comes.1 in
      let whole : Whole y = subst Whole (sym comes.4) (whole_of_reset laws fits safe_played columns lines comes.2 (reset_safe columns lines comes.3)) in
      let done = remade y whole x seen.state same shows.state in
      let text = state_text seen.console seen.state seen.character in
      let same_text : state_text y.console seen.state y.character ≡ text = ap₂ (λ (c : Console) (l : List ℕ). state_text c seen.state l) shows.console shows.character in
      let after : play x text ≡ record { console = y.console; sequence = done.sequence; character = y.character; reports = x.reports } = ap (λ t. play x t) (sym same_text) ∙ done.played in
      let there : Shows seen (record { console = y.console; sequence = done.sequence; character = y.character; reports = x.reports }) = record { console = shows.console; state = done.view; character = shows.character } in
      let silent : x.reports ≡ x.reports ++ sent x text = ap (λ (t : Term). t.reports) (sym after) ∙ sent_is_appended x text in
      (subst (Shows seen) (sym after) there, none_appended x.reports (sent x text) silent)
