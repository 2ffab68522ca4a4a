-- The state text, behind whatever bytes and with whatever bytes behind it.
use Rattle.std.proofs.Common.{◌≡◌, ℕ, List, [], ◌++◌, refl, sym, ap, ap₂, subst, ◌∙◌}
use Rattle.std.specs.Prelude.{Option, unwrap_or}
use Rattle.tape_cut.specs.States.{MakesAnyThis as Makes}
use Rattle.vt_parser.specs.declared.commands.Mode.TheVariants.{Ansi}
use Rattle.vt_parser.specs.declared.states.ParserState.{ParserState}
use Rattle.vt_parser.specs.declared.states.ParserState.TheVariants.{Ground}
use Rattle.vt_parser.specs.View.{parser_view}
use Rattle.vt_parser.proofs.Shapes.{shows_none}
use Rattle.xterm_term.specs.contracts.playing.TerminalPlays.TheImpl as plays
use Rattle.xterm_term.specs.declared.measure.Size.{Size}
use Rattle.xterm_term.specs.Console.{Console, reset_console}
use Rattle.xterm_term.specs.Law.{SeenDecides, SizeStays}
use Rattle.xterm_term.specs.SameSize.{SameSize}
use Rattle.xterm_term.specs.Seen.{Seen, Shows}
use Rattle.xterm_term.specs.Term.{Term, play, reset_term, sent}
use Rattle.xterm_term.proofs.Steps.{plays_in_parts}
use Rattle.xterm_state.specs.Remade.{MakesAnyThis, text_after}
use Rattle.xterm_state.specs.StateText.{state_text}

abbrev after : Size → List ℕ → Term
after size bytes = play (reset_term size.columns size.lines) bytes

abbrev text : Size → List ℕ → List ℕ
text size bytes = text_after size.columns size.lines bytes

-- the text of what shows a term is that of the term
pub text_is : (columns lines : ℕ) (bytes : List ℕ) (seen : Seen) → Shows seen (play (reset_term columns lines) bytes)
    → state_text seen.console seen.state seen.character ≡ text_after columns lines bytes
text_is columns lines bytes seen shows =
    let x = play (reset_term columns lines) bytes in
    ap₂ (λ (s : Console) (state : ParserState). state_text s state seen.character) (sym shows.console)
    (sym (ap (λ (o : Option ParserState). unwrap_or o Ground) shows.state))
    ∙ ap (state_text x.console (unwrap_or (parser_view Ansi x.sequence) Ground)) (sym shows.character)

-- what shows one term shows another that the same thing shows
shown_too : (seen other : Seen) (x y : Term) → Shows seen x → Shows seen y → Shows other x → Shows other y
shown_too seen other x y one two is = record {
  console = two.console ∙ sym one.console ∙ is.console;
  state = two.state ∙ sym one.state ∙ is.state;
  character = two.character ∙ sym one.character ∙ is.character;
}

parts : (size : Size) (before text more : List ℕ)
    → after size (before ++ text ++ more) ≡ play (play (after size before) text) more
parts size before text more =
    plays_in_parts (reset_term size.columns size.lines) (before ++ text) more
    ∙ ap (λ (x : Term). play x more) (plays_in_parts (reset_term size.columns size.lines) before text)

module _ (decides : SeenDecides) (stays : SizeStays) (law : MakesAnyThis) where
  -- something shows each term that comes of a reset one
  viewed : (size : Size) (bytes : List ℕ) → (seen : Seen) × Shows seen (after size bytes)
  viewed size bytes =
      let start : Seen = record { console = reset_console size.columns size.lines; state = Ground; character = []; origins = [] } in
      let x = reset_term size.columns size.lines in
      let shows : Shows start x = record { console = refl; state = shows_none Ansi; character = refl } in
      let there = (decides start x x bytes shows shows).0 in
      (there.0, there.1)

  same_size : (size : Size) (before bytes : List ℕ) → SameSize (after size bytes).console (after size before).console
  same_size size before bytes =
      let x = reset_term size.columns size.lines in
      let one = stays x before in
      let other = stays x bytes in
      record { columns = one.columns ∙ sym other.columns; lines = one.lines ∙ sym other.lines }

  -- the text leaves what was written, and sends nothing
  left : (size : Size) (before bytes : List ℕ) (seen : Seen) → Shows seen (after size bytes)
      → Shows seen (play (after size before) (text size bytes)) × (sent (after size before) (text size bytes) ≡ [])
  left size before bytes seen shows =
      subst (λ (l : List ℕ). Shows seen (play (after size before) l) × (sent (after size before) l ≡ []))
      (text_is size.columns size.lines bytes seen shows)
      (law seen (after size bytes) (after size before) (size.columns, size.lines, bytes, size.sound, refl) shows (same_size size before bytes))

  both : (size : Size) (before bytes more : List ℕ)
      → (seen : Seen) × Shows seen (after size (before ++ text size bytes ++ more)) × Shows seen (after size (bytes ++ more))
  both size before bytes more =
      let y = viewed size bytes in
      let made = left size before bytes y.0 y.1 in
      let here = text size bytes in
      let there = (decides y.0 (play (after size before) here) (after size bytes) more made.0 y.1).0 in (
        there.0,
        subst (Shows there.0) (sym (parts size before here more)) there.1,
        subst (Shows there.0) (sym (plays_in_parts (reset_term size.columns size.lines) bytes more)) there.2,
      )

  pub makes : Makes plays.ghosts text
  makes = record {
    seen = λ size before bytes more terminal.
        let there = both size before bytes more in
        let x = after size (before ++ text size bytes ++ more) in
        let y = after size (bytes ++ more) in
        (λ shows. shown_too there.0 terminal x y there.1 there.2 shows, λ shows. shown_too there.0 terminal y x there.2 there.1 shows);
    silent = λ size before bytes. let y = viewed size bytes in (left size before bytes y.0 y.1).1;
    answers = λ size before bytes more.
        let y = viewed size bytes in
        let made = left size before bytes y.0 y.1 in
        let here = text size bytes in
        ap (λ (x : Term). sent x more) (plays_in_parts (reset_term size.columns size.lines) before here)
        ∙ (decides y.0 (play (after size before) here) (after size bytes) more made.0 y.1).1;
  }
