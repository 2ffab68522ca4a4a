-- Characters that come to stand at the cursor with sequences between them that select renditions.
use Rattle.std.proofs.Common.{◌≡◌, ◌⊎◌, ℕ, ◌+◌, ◌<◌, ◌≤◌, Bool, true, false, List, [], ◌∷◌, ◌++◌, length, refl, sym, ap, ap₂, subst, inl, inr, ◌∙◌, ◌&&◌, ◌==◌, nat_le, arith}
use Rattle.std.specs.Prelude.{Option, None, Some, if◌then◌else◌}
use Rattle.std.specs.Option.{option_and_then, option_map_or}
use Rattle.std.proofs.lemmas.Bool.Decides.{nat_tests}
use Rattle.std.proofs.lemmas.List.{length-append}
use Rattle.arrayvec.specs.ArrayVec.{ArrayVec}
use Rattle.characters.specs.declared.utf8.Reading.{Reading}
use Rattle.characters.specs.declared.utf8.Reading.TheVariants as read
use Rattle.characters.specs.Utf8.{begins, code_point, reading}
use Rattle.vt_parser.specs.declared.commands.Command.{Command}
use Rattle.vt_parser.specs.declared.commands.Command.TheVariants as command
use Rattle.vt_parser.specs.declared.commands.Mode.TheVariants.{Ansi}
use Rattle.vt_parser.specs.declared.states.ParserState.{ParserState}
use Rattle.vt_parser.specs.declared.states.ParserState.TheVariants as state
use Rattle.vt_parser.specs.Forms.{bracket, held}
use Rattle.vt_parser.specs.Machine.{Transition, control_sequence_joined, is_text_begun, joined, stepped}
use Rattle.vt_parser.specs.Step.{command_of, pending_after}
use Rattle.vt_parser.specs.Syntax.{escape, is_graphic, is_within}
use Rattle.vt_parser.proofs.Agrees.{same_command, same_view}
use Rattle.vt_parser.proofs.Whole.{escape_begins, joins, joins_off}
use Rattle.sheet.specs.declared.rendition.Rendition.{Rendition}
use Rattle.xterm_screen.specs.Picture.{Picture}
use Rattle.xterm_term.specs.declared.modes.Modes.{Modes}
use Rattle.xterm_term.specs.declared.sets.CharacterSet.{CharacterSet}
use Rattle.xterm_term.specs.declared.sets.Sets.{Sets}
use Rattle.xterm_term.specs.Ahead.{IsSpelled, Styling, Letters, Escape, Parameters, Begun, WritesStyled, begun_after, behind_character, is_narrow, letter_of, letters_from, run_at_cursor, spelled, styling_after, styling_behind}
use Rattle.xterm_term.specs.Console.{Console, IsSafe}
use Rattle.xterm_term.specs.Effect.{effect}
use Rattle.xterm_term.specs.Law.{LawsBelow}
use Rattle.xterm_term.specs.Puts.{put}
use Rattle.xterm_term.specs.Reading.{Stands}
use Rattle.xterm_term.specs.Rows.{effect_of}
use Rattle.xterm_term.specs.Seen.{IsTerminal, Seen, Shows}
use Rattle.xterm_term.specs.Sets.{character_of, set_in_use}
use Rattle.xterm_term.specs.Term.{Outcome, Term, ends_last, forgotten_if, is_ground, outcome, outcome_of, play, step, syntax_read}
use Rattle.xterm_term.proofs.Ahead.{CanWrite, IsPlain, plain_writes, stands_there}
use Rattle.xterm_term.proofs.ByteKinds.{first, next, other}
use Rattle.xterm_term.proofs.Idle.{begun}
use Rattle.xterm_term.proofs.LettersAt.{read_whole}
use Rattle.xterm_term.proofs.Parts.{stands_after}
use Rattle.xterm_term.proofs.Runs.{byte_read, put_narrow, silent, stepped as term_by}
use Rattle.xterm_term.proofs.Stays.{safe_step}

-- ---- pictures on which characters are spelled

-- the cursor is behind them
spelled_column : (renditions : List Rendition) (letters : List ℕ) (p : Picture) → length renditions ≡ length letters
    → ((spelled renditions letters p).column ≡ p.column + length letters) × ((spelled renditions letters p).columns ≡ p.columns)
spelled_column [] [] p long = (omega arith, refl)
spelled_column [] (letter ∷ letters) p long = absurd (omega arith)
spelled_column (rendition ∷ renditions) [] p long = absurd (omega arith)
spelled_column (rendition ∷ renditions) (letter ∷ letters) p long =
    let rest = spelled_column renditions letters (run_at_cursor (letter ∷ []) rendition p) (omega arith) in
    (omega (arith, rest.0), rest.1)

spelled_joined : (renditions more : List Rendition) (letters others : List ℕ) (p : Picture) → length renditions ≡ length letters
    → spelled (renditions ++ more) (letters ++ others) p ≡ spelled more others (spelled renditions letters p)
spelled_joined [] more [] others p long = refl
spelled_joined [] more (letter ∷ letters) others p long = absurd (omega arith)
spelled_joined (rendition ∷ renditions) more [] others p long = absurd (omega arith)
spelled_joined (rendition ∷ renditions) more (letter ∷ letters) others p long =
    spelled_joined renditions more letters others (run_at_cursor (letter ∷ []) rendition p) (omega arith)

-- characters, and others behind them
pub spelled_on : (letters others : List ℕ) (p q r : Picture) → IsSpelled letters p q → IsSpelled others q r → IsSpelled (letters ++ others) p r
spelled_on letters others p q r front behind = record {
  renditions = front.renditions ++ behind.renditions;
  long = length-append front.renditions behind.renditions ∙ ap₂ (λ (m n : ℕ). m + n) front.long behind.long ∙ sym (length-append letters others);
  is = behind.is ∙ ap (spelled behind.renditions others) front.is ∙ sym (spelled_joined front.renditions behind.renditions letters others p front.long);
}

-- none
nothing_spelled : (p q : Picture) → q ≡ p → IsSpelled [] p q
nothing_spelled p q same = record { renditions = []; long = refl; is = same }

-- ---- what a sequence that selects renditions changes

-- no more than the rendition and the last character
record Restyled (s t : Console) : Type 0 where
  picture : t.picture ≡ s.picture
  modes : t.modes ≡ s.modes
  sets : t.sets ≡ s.sets
  title : t.title ≡ s.title

restyled_if : (ends : Bool) (s t : Console) → Restyled s t → Restyled s (forgotten_if ends t)
restyled_if true s t styled = record { picture = styled.picture; modes = styled.modes; sets = styled.sets; title = styled.title }
restyled_if false s t styled = styled

-- what has m for its final byte
m_restyles : (private : Bool) (params : ArrayVec ℕ) (s : Console) → Restyled s (effect (command.Csi private params 109) s)
unfolding effect
m_restyles true params s = record { picture = refl; modes = refl; sets = refl; title = refl }
m_restyles false params s = record { picture = refl; modes = refl; sets = refl; title = refl }

restyled_writes : (s t : Console) → Restyled s t → IsSafe t → CanWrite s → CanWrite t
restyled_writes s t styled safe can = record {
  safe = safe;
  title = styled.title ∙ can.title;
  wrap = ap (λ (p : Picture). p.wrap) styled.picture ∙ can.wrap;
  insert = ap (λ (m : Modes). m.insert) styled.modes ∙ can.insert;
}

-- ---- the parser's states, and the bytes of a character

-- the states of a place
abbrev StandsFor : Styling → ParserState → Type 0
StandsFor Letters at = at ≡ state.Ground
StandsFor Escape at = at ≡ state.Escape
StandsFor Parameters at = is_text_begun at ≡ true
StandsFor (Begun front) at = (at ≡ state.Ground) × (0 < length front)

-- what is pending of a character there
abbrev front_of : Styling → List ℕ
front_of (Begun front) = front
front_of _ = []

-- a step of the parser to a place, by which a console is restyled at most
record StylesTo (styling : Styling) (moved : Transition) : Type 0 where
  place : StandsFor styling moved.state
  restyles : (s : Console) → Restyled s (effect_of effect moved.command s)

unchanged : (s : Console) → Restyled s s
unchanged s = record { picture = refl; modes = refl; sets = refl; title = refl }

number_styles : (private : Bool) (params : ArrayVec ℕ) (over : Bool) (byte : ℕ) → is_within 48 59 byte ≡ true
    → StylesTo Parameters (control_sequence_joined private params over byte)
number_styles private params over byte is = record {
  place = grind (arith, nat_tests);
  restyles = λ s. grind (arith, nat_tests, unchanged s);
}

parameter_joins : (at : ParserState) (byte : ℕ) → is_text_begun at ≡ true → is_within 48 59 byte ≡ true → StylesTo Parameters (joined at byte)
unfolding joined
parameter_joins state.CsiStart byte begun is =
    let unmarked : (byte == 63) ≡ false = grind (arith, nat_tests) in
    rw unmarked (number_styles false (held (0 ∷ [])) false byte is)
parameter_joins (state.Csi private params over) byte begun is = number_styles private params over byte is
parameter_joins state.CsiIgnored byte begun is = record { place = grind (arith, nat_tests); restyles = λ s. grind (arith, nat_tests, unchanged s) }
parameter_joins _ byte begun is = absurd cc

m_joins : (at : ParserState) → is_text_begun at ≡ true → StylesTo Letters (joined at 109)
unfolding joined
m_joins state.CsiStart begun = record { place = refl; restyles = λ s. m_restyles false (held (0 ∷ [])) s }
m_joins (state.Csi private params over) begun = record { place = refl; restyles = λ s. m_restyles private params s }
m_joins state.CsiIgnored begun = record { place = refl; restyles = λ s. unchanged s }
m_joins _ begun = absurd cc

off_ground : (at : ParserState) → is_text_begun at ≡ true → at ≡ state.Ground → ⊥
off_ground at begun same = let ground = ap is_text_begun same in cc

-- ---- the bytes

-- which bytes lead on, and where
choice : (here : Bool) (there next : Styling) (otherwise : Option Styling) → (if here then Some there else otherwise) ≡ Some next
    → ((here ≡ true) × (next ≡ there)) ⊎ ((here ≡ false) × (otherwise ≡ Some next))
choice true there next otherwise led = inl (refl, cc)
choice false there next otherwise led = inr (refl, led)

no_choice : (next : Styling) → None ≡ Some next → ⊥
no_choice next led = cc

-- the only choice
only : (here : Bool) (there next : Styling) → (if here then Some there else None) ≡ Some next → (here ≡ true) × (next ≡ there)
only here there next led = elim (choice here there next None led) [ inl is ↦ is | inr is ↦ absurd (no_choice next is.1) ]

-- from letters: ESC, a graphic character, or the first byte of another
data FromLetters (set : CharacterSet) (byte : ℕ) (next : Styling) : Type 0 where
  escapes : byte ≡ escape → next ≡ Escape → FromLetters set byte next
  prints : is_graphic byte ≡ true → is_narrow (character_of set byte) ≡ true → next ≡ Letters → FromLetters set byte next
  opens : begins byte ≡ true → next ≡ Begun (byte ∷ []) → FromLetters set byte next

after_letters : (set : CharacterSet) (byte : ℕ) (next : Styling) → styling_after set Letters byte ≡ Some next → FromLetters set byte next
unfolding styling_after
after_letters set byte next led = elim (choice (byte == escape) Escape next _ led) [
  | inl is ↦ escapes (grind (arith, nat_tests, is.0)) is.1
  | inr is ↦ not_escape (is_graphic byte) refl is.1
]
  where
    not_escape : (b : Bool) → is_graphic byte ≡ b
        → (if b then behind_character (character_of set byte) else (if begins byte then Some (Begun (byte ∷ [])) else None)) ≡ Some next
        → FromLetters set byte next
    not_escape true graphic to = let is = only (is_narrow (character_of set byte)) Letters next to in prints graphic is.0 is.1
    not_escape false graphic to = let is = only (begins byte) (Begun (byte ∷ [])) next to in opens is.0 is.1

after_escape : (set : CharacterSet) (byte : ℕ) (next : Styling) → styling_after set Escape byte ≡ Some next → (byte ≡ bracket) × (next ≡ Parameters)
unfolding styling_after
after_escape set byte next led = let is = only (byte == bracket) Parameters next led in (grind (arith, nat_tests, is.0), is.1)

after_parameters : (set : CharacterSet) (byte : ℕ) (next : Styling) → styling_after set Parameters byte ≡ Some next
    → ((byte ≡ 109) × (next ≡ Letters)) ⊎ ((is_within 48 59 byte ≡ true) × (next ≡ Parameters))
unfolding styling_after
after_parameters set byte next led = elim (choice (byte == 109) Letters next _ led) [
  | inl is ↦ inl (grind (arith, nat_tests, is.0), is.1)
  | inr is ↦ inr (only (is_within 48 59 byte) Parameters next is.1)
]

-- from inside a character: its last byte, or one more
data FromInside (front : List ℕ) (byte : ℕ) (next : Styling) : Type 0 where
  ends : reading front byte ≡ read.Character (code_point (front ++ byte ∷ [])) → is_narrow (code_point (front ++ byte ∷ [])) ≡ true → next ≡ Letters
      → FromInside front byte next
  goes_on : reading front byte ≡ read.More → next ≡ Begun (front ++ byte ∷ []) → FromInside front byte next

after_begun : (set : CharacterSet) (front : List ℕ) (byte : ℕ) (next : Styling) → styling_after set (Begun front) byte ≡ Some next → FromInside front byte next
unfolding styling_after
after_begun set front byte next led = by_reading (reading front byte) refl led
  where
    by_reading : (r : Reading) → reading front byte ≡ r → begun_after r front byte ≡ Some next → FromInside front byte next
    by_reading (read.Character character) is to =
        let whole = read_whole front byte character is in
        let narrow = only (is_narrow character) Letters next to in
        ends (is ∙ ap read.Character whole) (ap is_narrow (sym whole) ∙ narrow.0) narrow.1
    by_reading read.More is to = goes_on is cc
    by_reading read.Broken is to = absurd (no_choice next to)

-- ESC begins a sequence, and [ its parameters
escape_styles : (at : ParserState) → StylesTo Escape (stepped at Ansi escape)
escape_styles at = subst (StylesTo Escape) (sym (escape_begins at Ansi)) (record { place = refl; restyles = unchanged })

bracket_styles : StylesTo Parameters (stepped state.Escape Ansi bracket)
unfolding joined
bracket_styles = subst (StylesTo Parameters) (sym (joins state.Escape Ansi bracket refl refl)) (record { place = refl; restyles = unchanged })

parameter_styles : (at : ParserState) (byte : ℕ) → is_text_begun at ≡ true → is_within 48 59 byte ≡ true → StylesTo Parameters (stepped at Ansi byte)
parameter_styles at byte begun is =
    subst (StylesTo Parameters) (sym (joins_off at Ansi byte (off_ground at begun) (grind (arith, nat_tests)))) (parameter_joins at byte begun is)

m_styles : (at : ParserState) → is_text_begun at ≡ true → StylesTo Letters (stepped at Ansi 109)
m_styles at begun = subst (StylesTo Letters) (sym (joins_off at Ansi 109 (off_ground at begun) refl)) (m_joins at begun)

-- ---- steps of a terminal

-- a terminal stands at a place, this set is in use, and characters can be written
record IsAt (set : CharacterSet) (styling : Styling) (x : Term) : Type 0 where
  can : CanWrite x.console
  in_use : set_in_use x.console.sets ≡ set
  at : ParserState
  shown : Stands x.sequence at
  place : StandsFor styling at
  character : x.character ≡ front_of styling

-- so another does, and these characters were put
record Leads (set : CharacterSet) (letters : List ℕ) (styling : Styling) (x y : Term) : Type 0 where
  is : IsAt set styling y
  picture : IsSpelled letters x.console.picture y.console.picture

no_upper : (ground : Bool) (byte : ℕ) → nat_le 128 byte ≡ false → (ground && nat_le 128 byte) ≡ false
no_upper true byte low = low
no_upper false byte low = refl

-- where the first byte leads, and the others from there
led_on : (set : CharacterSet) (rest : List ℕ) (end : Styling) (after : Option Styling)
    → option_and_then (λ next. styling_behind set next rest) after ≡ Some end
    → (next : Styling) × (after ≡ Some next) × (styling_behind set next rest ≡ Some end)
led_on set rest end None behind = absurd cc
led_on set rest end (Some next) behind = (next, refl, behind)

-- a character of one column that is put comes to stand at the cursor
record StandsThere (character : ℕ) (s t : Console) : Type 0 where
  picture : t.picture ≡ run_at_cursor (character ∷ []) s.rendition s.picture
  modes : t.modes ≡ s.modes
  sets : t.sets ≡ s.sets
  title : t.title ≡ s.title

put_stands : (character : ℕ) (s : Console) → CanWrite s → is_narrow character ≡ true → s.picture.column + 1 ≤ s.picture.columns
    → StandsThere character s (put character s)
put_stands character s can narrow room =
    subst (StandsThere character s) (sym (put_narrow character s narrow))
    (record { picture = stands_there s (character ∷ []) can room; modes = refl; sets = refl; title = refl })

module _ (laws : LawsBelow) where
  no_sequence : (x : Term) (at : ParserState) → Stands x.sequence at → at ≡ state.Ground → x.sequence ≡ []
  no_sequence x at shown ground = laws.ground_is_empty.1 Ansi x.sequence (shown ∙ ap (λ (s : ParserState). Some s) ground)

  -- by what its byte comes to
  moved_to : (set : CharacterSet) (letters : List ℕ) (styling : Styling) (x : Term) (byte : ℕ) (o : Outcome) → outcome_of x.console x.sequence x.character byte ≡ o
      → Leads set letters styling x (term_by x.reports o) → Leads set letters styling x (step x byte)
  moved_to set letters styling x byte o same leads = subst (λ (q : Outcome). Leads set letters styling x (term_by x.reports q)) (sym same) leads

  restyling_step : (set : CharacterSet) (styling next : Styling) (x : Term) (byte : ℕ) (is : IsAt set styling x) → x.character ≡ [] → front_of next ≡ []
      → nat_le 128 byte ≡ false → StylesTo next (stepped is.at Ansi byte)
      → Leads set [] next x (step x byte)
  restyling_step set styling next x byte is alone none low styles =
      let s : Console = x.console in
      let after : ParserState = (stepped is.at Ansi byte).state in
      let here : outcome_of s x.sequence x.character byte ≡ syntax_read s x.sequence byte =
      sym (other s x.sequence byte is.can.title (no_upper (is_ground x.sequence) byte low) ∙ first s x.sequence x.character byte alone) in
      let told : Restyled s (effect_of effect (command_of Ansi x.sequence byte) s) =
      subst (λ (c : Option Command). Restyled s (effect_of effect c s)) (sym (same_command Ansi Ansi x.sequence byte is.at is.shown)) (styles.restyles s) in
      let restyled : Restyled s (syntax_read s x.sequence byte).console = restyled_if (ends_last x.sequence byte) s _ told in
      moved_to set [] next x byte (syntax_read s x.sequence byte) here (record {
        is = record {
          can = restyled_writes s (syntax_read s x.sequence byte).console restyled
              (subst (λ (o : Outcome). IsSafe o.console) here (safe_step laws x byte is.can.safe)) is.can;
          in_use = ap (λ (sets : Sets). set_in_use sets) restyled.sets ∙ is.in_use;
          at = after;
          shown = stands_after byte (pending_after Ansi x.sequence byte) after (same_view Ansi Ansi x.sequence byte is.at is.shown);
          place = styles.place;
          character = sym none;
        };
        picture = nothing_spelled s.picture (syntax_read s x.sequence byte).console.picture restyled.picture;
      })

  -- a character of one column that a byte puts
  put_step : (set : CharacterSet) (styling : Styling) (x : Term) (byte character : ℕ) (sequence : List ℕ) → IsAt set styling x → is_narrow character ≡ true
      → x.console.picture.column + 1 ≤ x.console.picture.columns → Stands sequence state.Ground
      → outcome_of x.console x.sequence x.character byte ≡ outcome (put character x.console) sequence [] []
      → Leads set (character ∷ []) Letters x (step x byte)
  put_step set styling x byte character sequence is narrow room ground same =
      let s : Console = x.console in
      let stands : StandsThere character s (put character s) = put_stands character s is.can narrow room in
      moved_to set (character ∷ []) Letters x byte (outcome (put character s) sequence [] []) same (record {
        is = record {
          can = record {
            safe = laws.puts_keep_safe character s is.can.safe;
            title = stands.title ∙ is.can.title;
            wrap = ap (λ (p : Picture). p.wrap) stands.picture ∙ is.can.wrap;
            insert = ap (λ (m : Modes). m.insert) stands.modes ∙ is.can.insert;
          };
          in_use = ap (λ (sets : Sets). set_in_use sets) stands.sets ∙ is.in_use;
          at = state.Ground;
          shown = ground;
          place = refl;
          character = refl;
        };
        picture = record { renditions = s.rendition ∷ []; long = refl; is = stands.picture };
      })

  -- a byte of a character that isn't its last
  front_step : (set : CharacterSet) (styling : Styling) (x : Term) (byte : ℕ) (front sequence : List ℕ) → IsAt set styling x → 0 < length front
      → Stands sequence state.Ground → outcome_of x.console x.sequence x.character byte ≡ outcome x.console sequence front []
      → Leads set [] (Begun front) x (step x byte)
  front_step set styling x byte front sequence is some ground same =
      moved_to set [] (Begun front) x byte (outcome x.console sequence front []) same (record {
        is = record { can = is.can; in_use = is.in_use; at = state.Ground; shown = ground; place = (refl, some); character = refl };
        picture = nothing_spelled x.console.picture x.console.picture refl;
      })

  letter_step : (set : CharacterSet) (x : Term) (byte : ℕ) (next : Styling) → IsAt set Letters x → FromLetters set byte next
      → x.console.picture.column + length (letter_of set Letters next byte) ≤ x.console.picture.columns
      → Leads set (letter_of set Letters next byte) next x (step x byte)
  letter_step set x byte next is (escapes esc to) room =
      subst (λ (n : Styling). Leads set (letter_of set Letters n byte) n x (step x byte)) (sym to)
      (restyling_step set Letters Escape x byte is is.character refl (grind (arith, nat_tests, esc))
      (subst (λ (b : ℕ). StylesTo Escape (stepped is.at Ansi b)) (sym esc) (escape_styles is.at)))
  letter_step set x byte next is (prints graphic narrow to) room =
      let s : Console = x.console in
      let same : outcome_of s x.sequence x.character byte ≡ silent (put (character_of set byte) s) =
      ap₂ (λ (l c : List ℕ). outcome_of s l c byte) (no_sequence x is.at is.shown is.place) is.character
      ∙ byte_read laws.graphic_is_shown s byte graphic is.can.title
      ∙ ap (λ (used : CharacterSet). silent (put (character_of used byte) s)) is.in_use in
      subst (λ (n : Styling). Leads set (letter_of set Letters n byte) n x (step x byte)) (sym to)
      (put_step set Letters x byte (character_of set byte) [] is narrow
      (subst (λ (n : Styling). s.picture.column + length (letter_of set Letters n byte) ≤ s.picture.columns) to room)
      (laws.ground_is_empty.0 Ansi) same)
  letter_step set x byte next is (opens begins_one to) room =
      let s : Console = x.console in
      let same : outcome_of s x.sequence x.character byte ≡ outcome s [] (byte ∷ []) [] =
      ap₂ (λ (l c : List ℕ). outcome_of s l c byte) (no_sequence x is.at is.shown is.place) is.character ∙ begun s byte is.can.title begins_one in
      subst (λ (n : Styling). Leads set (letter_of set Letters n byte) n x (step x byte)) (sym to)
      (front_step set Letters x byte (byte ∷ []) [] is (omega arith) (laws.ground_is_empty.0 Ansi) same)

  inside_step : (set : CharacterSet) (front : List ℕ) (x : Term) (byte : ℕ) (next : Styling) → IsAt set (Begun front) x → FromInside front byte next
      → x.console.picture.column + length (letter_of set (Begun front) next byte) ≤ x.console.picture.columns
      → Leads set (letter_of set (Begun front) next byte) next x (step x byte)
  inside_step set front x byte next_place is (ends whole narrow to) room =
      let s : Console = x.console in
      let character : ℕ = code_point (front ++ byte ∷ []) in
      let same : outcome_of s x.sequence x.character byte ≡ outcome (put character s) x.sequence [] [] =
      ap (λ (l : List ℕ). outcome_of s x.sequence l byte) is.character
      ∙ sym (next s x.sequence front byte (read.Character character) is.place.1 (sym whole)) in
      subst (λ (n : Styling). Leads set (letter_of set (Begun front) n byte) n x (step x byte)) (sym to)
      (put_step set (Begun front) x byte character x.sequence is narrow
      (subst (λ (n : Styling). s.picture.column + length (letter_of set (Begun front) n byte) ≤ s.picture.columns) to room)
      (subst (Stands x.sequence) is.place.0 is.shown) same)
  inside_step set front x byte next_place is (goes_on more to) room =
      let s : Console = x.console in
      let same : outcome_of s x.sequence x.character byte ≡ outcome s x.sequence (front ++ byte ∷ []) [] =
      ap (λ (l : List ℕ). outcome_of s x.sequence l byte) is.character ∙ sym (next s x.sequence front byte read.More is.place.1 (sym more)) in
      let longer = length-append front (byte ∷ []) in
      subst (λ (n : Styling). Leads set (letter_of set (Begun front) n byte) n x (step x byte)) (sym to)
      (front_step set (Begun front) x byte (front ++ byte ∷ []) x.sequence is (omega (arith, longer))
      (subst (Stands x.sequence) is.place.0 is.shown) same)

  one_step : (set : CharacterSet) (styling next : Styling) (x : Term) (byte : ℕ) → IsAt set styling x → styling_after set styling byte ≡ Some next
      → x.console.picture.column + length (letter_of set styling next byte) ≤ x.console.picture.columns
      → Leads set (letter_of set styling next byte) next x (step x byte)
  one_step set Letters next x byte is led room = letter_step set x byte next is (after_letters set byte next led) room
  one_step set (Begun front) next x byte is led room = inside_step set front x byte next is (after_begun set front byte next led) room
  one_step set Escape next x byte is led room =
      let to = after_escape set byte next led in
      subst (λ (n : Styling). Leads set (letter_of set Escape n byte) n x (step x byte)) (sym to.1)
      (restyling_step set Escape Parameters x byte is is.character refl (grind (arith, nat_tests, to.0))
      (subst (λ (b : ℕ). StylesTo Parameters (stepped is.at Ansi b)) (sym to.0)
      (subst (λ (at : ParserState). StylesTo Parameters (stepped at Ansi bracket)) (sym is.place) bracket_styles)))
  one_step set Parameters next x byte is led room = elim (after_parameters set byte next led) [
    | inl to ↦ subst (λ (n : Styling). Leads set (letter_of set Parameters n byte) n x (step x byte)) (sym to.1)
        (restyling_step set Parameters Letters x byte is is.character refl (grind (arith, nat_tests, to.0))
        (subst (λ (b : ℕ). StylesTo Letters (stepped is.at Ansi b)) (sym to.0) (m_styles is.at is.place)))
    | inr to ↦ subst (λ (n : Styling). Leads set (letter_of set Parameters n byte) n x (step x byte)) (sym to.1)
        (restyling_step set Parameters Parameters x byte is is.character refl (grind (arith, nat_tests, to.0)) (parameter_styles is.at byte is.place to.0))
  ]

  styled : (set : CharacterSet) (bytes : List ℕ) (styling end : Styling) (x : Term) → IsAt set styling x → styling_behind set styling bytes ≡ Some end
      → x.console.picture.column + length (letters_from set styling bytes) ≤ x.console.picture.columns
      → IsSpelled (letters_from set styling bytes) x.console.picture (play x bytes).console.picture
  unfolding play
  styled set [] styling end x is behind room = nothing_spelled x.console.picture x.console.picture refl
  styled set (byte ∷ rest) styling end x is behind room =
      let led = led_on set rest end (styling_after set styling byte) behind in
      let next : Styling = led.0 in
      let letter : List ℕ = letter_of set styling next byte in
      let letters : List ℕ = letters_from set next rest in
      let p : Picture = x.console.picture in
      let q : Picture = (step x byte).console.picture in
      let all : letters_from set styling (byte ∷ rest) ≡ letter ++ letters =
      ap (λ (after : Option Styling). option_map_or (λ next. letter_of set styling next byte ++ letters_from set next rest) after []) led.1 in
      let count : length (letters_from set styling (byte ∷ rest)) ≡ length letter + length letters =
      ap (λ (l : List ℕ). length l) all ∙ length-append letter letters in
      let here : Leads set letter next x (step x byte) = one_step set styling next x byte is led.1 (omega (arith, room, count)) in
      let size = spelled_column here.picture.renditions letter p here.picture.long in
      let column : q.column ≡ p.column + length letter = ap (λ (r : Picture). r.column) here.picture.is ∙ size.0 in
      let columns : q.columns ≡ p.columns = ap (λ (r : Picture). r.columns) here.picture.is ∙ size.1 in
      subst (λ (l : List ℕ). IsSpelled l p (play (step x byte) rest).console.picture) (sym all)
      (spelled_on letter letters p q (play (step x byte) rest).console.picture here.picture
      (styled set rest next end (step x byte) here.is led.2 (omega (arith, room, count, column, columns))))

  pub writes_styled : (now_ : Seen) (x : Term) → IsTerminal now_ → IsPlain now_ → Shows now_ x → WritesStyled (set_in_use now_.console.sets) x
  writes_styled now_ x is plain shows bytes styling behind room =
      styled (set_in_use now_.console.sets) bytes Letters styling x
      (record {
        can = subst CanWrite (sym shows.console) (plain_writes now_ is plain);
        in_use = ap (λ (s : Console). set_in_use s.sets) shows.console;
        at = now_.state;
        shown = shows.state;
        place = plain.state;
        character = shows.character ∙ plain.character;
      }) behind room
