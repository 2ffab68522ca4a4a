-- What bytes will show, told before they are played.
use Rattle.std.proofs.Common.{◌≡◌, ◌≢◌, ℕ, zero, suc, ◌+◌, ◌-◌, ◌<◌, ◌≤◌, Bool, true, false, List, [], ◌∷◌, ◌++◌, length, map, take, refl, sym, ap, ap₂, subst, inl, inr, ◌∙◌, ◌&&◌, nat_eq, nat_le, arith}
use Rattle.std.specs.Prelude.{Option, None, Some}
use Rattle.std.proofs.lemmas.Bool.{cases_Bool}
use Rattle.std.proofs.lemmas.Bool.Decides.{nat_tests}
use Rattle.std.proofs.lemmas.List.{append-nil, length-append, length-take}
use Rattle.characters.specs.declared.utf8.Reading.TheVariants.{More}
use Rattle.characters.specs.Law.{AsciiIsNarrow}
use Rattle.characters.specs.Utf8.{Spells, SpellsOn}
use Rattle.vt_parser.specs.declared.commands.Command.{Command}
use Rattle.vt_parser.specs.declared.commands.Mode.TheVariants.{Ansi}
use Rattle.vt_parser.specs.declared.states.ParserState.{ParserState}
use Rattle.vt_parser.specs.declared.states.ParserState.TheVariants.{Ground}
use Rattle.vt_parser.specs.Fold.{Waits}
use Rattle.vt_parser.specs.Law.{ControlIsGiven}
use Rattle.vt_parser.specs.Step.{command_of, context_of, pending_after}
use Rattle.std.specs.List.{list_all}
use Rattle.vt_parser.specs.Syntax.{is_graphic, is_within}
use Rattle.vt_parser.specs.View.{parser_view}
use Rattle.sheet.specs.declared.rendition.Colour.{Colour}
use Rattle.sheet.specs.Grid.{blank_row, scrolled_up}
use Rattle.xterm_screen.specs.Picture.{Picture}
use Rattle.xterm_screen.specs.Moves.{moved_to_left}
use Rattle.xterm_screen.specs.Scrolls.{indexed}
use Rattle.xterm_screen.specs.Puts.{run_shown}
use Rattle.xterm_screen.proofs.Runs.{run_within}
use Rattle.xterm_term.specs.declared.sets.CharacterSet.{CharacterSet}
use Rattle.xterm_term.specs.declared.sets.CharacterSet.TheVariants.{Ascii}
use Rattle.xterm_term.specs.Ahead.{MovesUp, WritesOn, run_at_cursor}
use Rattle.xterm_term.specs.Console.{Console, IsSafe, forgotten}
use Rattle.xterm_term.specs.Controls.{Control, Lf, controls, control_effect, line_fed}
use Rattle.xterm_term.specs.Effect.{effect}
use Rattle.xterm_term.specs.Law.{LawsBelow}
use Rattle.xterm_term.specs.Puts.{all_put}
use Rattle.xterm_term.specs.Reading.{is_ground_state}
use Rattle.xterm_term.specs.Rows.{effect_of, named}
use Rattle.xterm_term.specs.Seen.{IsTerminal, Seen, Shows}
use Rattle.xterm_term.specs.Sets.{character_of, set_in_use}
use Rattle.xterm_term.specs.Term.{Outcome, Term, ends_last, forgotten_if, is_ground, outcome_of, play, step, syntax_read}
use Rattle.xterm_term.proofs.ByteKinds.{first, next, other}
use Rattle.xterm_term.proofs.Idle.{begun, control_brings, halfway}
use Rattle.xterm_term.proofs.Ran.{at_ground}
use Rattle.xterm_term.proofs.Runs.{ascii_map, ascii_put, on_ground, run_played, stepped}
use Rattle.xterm_term.proofs.Taken.{front_within, nothing_played}

-- characters of one column come to stand on it as they are: no title is read, the wrap isn't pending, and none is inserted
pub record CanWrite (s : Console) : Type 0 where
  pub safe : IsSafe s
  pub title : s.title ≡ false
  pub wrap : s.picture.wrap ≡ false
  pub insert : s.modes.insert ≡ false

-- the same of what is seen, with nothing pending
pub record IsPlain (seen : Seen) : Type 0 where
  pub title : seen.console.title ≡ false
  pub state : seen.state ≡ Ground
  pub character : seen.character ≡ []
  pub wrap : seen.console.picture.wrap ≡ false
  pub insert : seen.console.modes.insert ≡ false

pub plain_writes : (seen : Seen) → IsTerminal seen → IsPlain seen → CanWrite seen.console
plain_writes seen is plain = record { safe = is.safe; title = plain.title; wrap = plain.wrap; insert = plain.insert }

-- they stand there from the cursor on
pub stands_there : (s : Console) (characters : List ℕ) → CanWrite s → s.picture.column + length characters ≤ s.picture.columns
    → run_shown characters s.rendition s.modes.autowrap s.modes.insert s.picture ≡ run_at_cursor characters s.rendition s.picture
stands_there s characters can room =
    let sound = can.safe.sound in
    ap (λ b. run_shown characters s.rendition s.modes.autowrap b s.picture) can.insert
    ∙ run_within s.rendition s.modes.autowrap characters s.picture can.wrap sound.line_low (omega (arith, sound.line_high, sound.rows)) room

module _ (laws : LawsBelow) (narrow : AsciiIsNarrow) where
  run_stands : (s : Console) (reports bytes : List ℕ) → CanWrite s → set_in_use s.sets ≡ Ascii → list_all is_graphic bytes ≡ true
      → s.picture.column + length bytes ≤ s.picture.columns
      → (play (on_ground s reports) bytes).console.picture ≡ run_at_cursor bytes s.rendition s.picture
  run_stands s reports bytes can ascii graphic room =
      let as_they_are : map (character_of (set_in_use s.sets)) bytes ≡ bytes =
      ap (λ (set : CharacterSet). map (character_of set) bytes) ascii ∙ ascii_map bytes in
      ap (λ (y : Term). y.console.picture) (run_played laws.graphic_is_shown s reports bytes graphic can.title).0
      ∙ ap (λ (l : List ℕ). (all_put l s).picture) as_they_are
      ∙ ap (λ (t : Console). t.picture) (ascii_put narrow bytes s graphic)
      ∙ stands_there s bytes can room

  pub writes_on : (seen : Seen) (x : Term) → IsTerminal seen → IsPlain seen → set_in_use seen.console.sets ≡ Ascii → Shows seen x → WritesOn x
  writes_on seen x is plain ascii shows bytes graphic room =
      let s : Console = seen.console in
      let same = shows.console in
      let fits : s.picture.column + length bytes ≤ s.picture.columns =
      subst (λ (t : Console). t.picture.column + length bytes ≤ t.picture.columns) same room in
      subst (λ (t : Console). (play x bytes).console.picture ≡ run_at_cursor bytes t.rendition t.picture) (sym same)
      (ap (λ (y : Term). (play y bytes).console.picture) (at_ground laws seen x shows plain.state plain.character)
      ∙ run_stands s x.reports bytes (plain_writes seen is plain) ascii graphic fits)

-- ---- a line feed at the last line

-- nothing is pending, no title is read, the margins are the first line and the last, and the cursor is on the last
pub record IsAtFoot (seen : Seen) : Type 0 where
  pub title : seen.console.title ≡ false
  pub state : seen.state ≡ Ground
  pub character : seen.character ≡ []
  pub top : seen.console.picture.top ≡ 1
  pub bottom : seen.console.picture.bottom ≡ seen.console.picture.lines
  pub line : seen.console.picture.line ≡ seen.console.picture.lines

-- LF, VT and FF are line feeds, and controls that have an effect
pub line_feed_named : (byte : ℕ) → is_within 10 12 byte ≡ true → named controls byte ≡ Some Lf
line_feed_named byte is = grind (arith, nat_tests)

pub line_feed_within : (byte : ℕ) → is_within 10 12 byte ≡ true → is_within 8 15 byte ≡ true
line_feed_within byte is = grind (arith, nat_tests)

-- at the bottom margin an index moves the region up
index_raises : (paper : Colour) (p : Picture) → p.line ≡ p.bottom
    → (indexed paper p).rows ≡ scrolled_up 1 p.top p.bottom (blank_row p.columns paper) p.rows
index_raises paper p same = let is : nat_eq p.line p.bottom ≡ true = grind (arith, nat_tests) in simp is

-- so does a line feed, which goes to column 1 first or not
pub feed_raises : (newline : Bool) (paper : Colour) (p : Picture) → p.line ≡ p.bottom
    → (line_fed newline paper p).rows ≡ scrolled_up 1 p.top p.bottom (blank_row p.columns paper) p.rows
feed_raises true paper p same = index_raises paper (moved_to_left p) same
feed_raises false paper p same = index_raises paper p same

pub moves_up : LawsBelow → ControlIsGiven → (seen : Seen) (x : Term) (byte : ℕ) → IsAtFoot seen → is_within 10 12 byte ≡ true → Shows seen x → MovesUp x byte
moves_up laws given seen x byte foot feed shows =
    let s : Console = seen.console in
    let p : Picture = s.picture in
    let paper : Colour = s.rendition.paper in
    let played = (control_brings given s byte (line_feed_within byte feed) foot.title).played x.reports in
    subst (λ (t : Console). (play x (byte ∷ [])).console.picture.rows
    ≡ scrolled_up 1 1 t.picture.lines (blank_row t.picture.columns t.rendition.paper) t.picture.rows) (sym shows.console)
    (ap (λ (y : Term). (play y (byte ∷ [])).console.picture.rows) (at_ground laws seen x shows foot.state foot.character)
    ∙ ap (λ (y : Term). y.console.picture.rows) played
    ∙ ap (λ (row : Option Control). (forgotten (effect_of control_effect row s)).picture.rows) (line_feed_named byte feed)
    ∙ feed_raises s.modes.newline paper p (foot.line ∙ sym foot.bottom)
    ∙ ap₂ (λ (top bottom : ℕ). scrolled_up 1 top bottom (blank_row p.columns paper) p.rows) foot.top foot.bottom)

-- ---- bytes that show nothing

forgotten_picture : (b : Bool) (s : Console) → ((forgotten_if b s).picture ≡ s.picture) × ((forgotten_if b s).title ≡ s.title)
forgotten_picture true s = (refl, refl)
forgotten_picture false s = (refl, refl)

-- a byte from 128 on isn't waited behind on ground
low_where_waited : (sequence : List ℕ) (byte : ℕ) → pending_after Ansi sequence byte ≢ [] → (is_ground sequence && nat_le 128 byte) ≡ false
unfolding pending_after context_of
low_where_waited [] byte some = elim (cases_Bool (nat_le 128 byte)) [
  | inl t ↦ absurd (some (grind (arith, nat_tests)))
  | inr f ↦ f
]
low_where_waited (b ∷ sequence) byte some = refl

-- a byte that gives no command, and behind which a sequence is pending
record Stepped (x y : Term) (sequence : List ℕ) : Type 0 where
  picture : y.console.picture ≡ x.console.picture
  title : y.console.title ≡ false
  pending : y.sequence ≡ sequence
  character : y.character ≡ []

waited : (x : Term) (byte : ℕ) → x.console.title ≡ false → x.character ≡ [] → command_of Ansi x.sequence byte ≡ None → pending_after Ansi x.sequence byte ≢ []
    → Stepped x (step x byte) (pending_after Ansi x.sequence byte)
waited x byte title character none some =
    let s : Console = x.console in
    let here : syntax_read s x.sequence byte ≡ outcome_of s x.sequence x.character byte =
    other s x.sequence byte title (low_where_waited x.sequence byte some) ∙ first s x.sequence x.character byte character in
    let ends = ends_last x.sequence byte in
    let quiet : (syntax_read s x.sequence byte).console ≡ forgotten_if ends s = ap (λ (c : Option Command). forgotten_if ends (effect_of effect c s)) none in
    let console : (step x byte).console ≡ forgotten_if ends s = ap (λ (o : Outcome). o.console) (sym here) ∙ quiet in
    record {
      picture = ap (λ (t : Console). t.picture) console ∙ (forgotten_picture ends s).0;
      title = ap (λ (t : Console). t.title) console ∙ (forgotten_picture ends s).1 ∙ title;
      pending = ap (λ (o : Outcome). o.sequence) (sym here);
      character = ap (λ (o : Outcome). o.character) (sym here);
    }

pub waits_unshown : (bytes : List ℕ) (count : ℕ) (x : Term) → x.console.title ≡ false → x.character ≡ [] → Waits x.sequence bytes
    → (play x (take count bytes)).console.picture ≡ x.console.picture
unfolding play
waits_unshown bytes zero x title character waits = refl
waits_unshown [] (suc count) x title character waits = refl
waits_unshown (byte ∷ rest) (suc count) x title character waits =
    let here = waited x byte title character waits.0 waits.1 in
    waits_unshown rest count (step x byte) here.title here.character (subst (λ (l : List ℕ). Waits l rest) (sym here.pending) waits.2) ∙ here.picture

-- the bytes of a character but the last
spelled_on : (bytes : List ℕ) (s : Console) (character reports : List ℕ) (c count : ℕ) → 0 < length character → SpellsOn character bytes c → count < length bytes
    → (play (halfway s character reports) (take count bytes)).console ≡ s
unfolding play
spelled_on bytes s character reports c zero some spells before = refl
spelled_on [] s character reports c (suc count) some spells before = absurd spells
spelled_on (byte ∷ []) s character reports c (suc count) some spells before = absurd (omega arith)
spelled_on (byte ∷ more ∷ rest) s character reports c (suc count) some spells before =
    let here = next s [] character byte More some (sym spells.0) in
    let moved : step (halfway s character reports) byte ≡ halfway s (character ++ byte ∷ []) reports
    = ap (λ (o : Outcome). stepped reports o) (sym here) ∙ ap (halfway s (character ++ byte ∷ [])) (append-nil reports) in
    let longer = length-append character (byte ∷ []) in
    ap (λ (x : Term). (play x (take count (more ∷ rest))).console) moved
    ∙ spelled_on (more ∷ rest) s (character ++ byte ∷ []) reports c count (omega arith) spells.1 (omega arith)

pub character_unshown : (s : Console) (reports bytes : List ℕ) (c count : ℕ) → s.title ≡ false → Spells bytes c → count < length bytes
    → (play (on_ground s reports) (take count bytes)).console ≡ s
unfolding play
character_unshown s reports bytes c zero title spells before = refl
character_unshown s reports [] c (suc count) title spells before = absurd spells
character_unshown s reports (byte ∷ rest) c (suc count) title spells before =
    let here = begun s byte title spells.0 in
    let moved : step (on_ground s reports) byte ≡ halfway s (byte ∷ []) reports
    = ap (λ (o : Outcome). stepped reports o) here ∙ ap (halfway s (byte ∷ [])) (append-nil reports) in
    ap (λ (x : Term). (play x (take count rest)).console) moved ∙ spelled_on rest s (byte ∷ []) reports c count (omega arith) spells.1 (omega arith)

pub nothing_unshown : (x : Term) (bytes : List ℕ) (count : ℕ) → count ≤ 0 → (play x (take count bytes)).console.picture ≡ x.console.picture
nothing_unshown x bytes count none = ap (λ (y : Term). y.console.picture) (nothing_played x bytes count (omega arith))

pub on_ground_alone : (state : ParserState) → is_ground_state state ≡ true → state ≡ Ground
on_ground_alone Ground is = refl
on_ground_alone _ is = absurd cc

-- what is seen of a terminal with nothing pending but maybe a sequence
pub record IsOpen (seen : Seen) : Type 0 where
  pub title : seen.console.title ≡ false
  pub character : seen.character ≡ []

pub sequence_unshown : (seen : Seen) (x : Term) (bytes : List ℕ) (n count : ℕ) → IsOpen seen → Shows seen x
    → ((pending : List ℕ) → parser_view Ansi pending ≡ Some seen.state → Waits pending (take n bytes)) → n ≤ length bytes → count ≤ n
    → (play x (take count bytes)).console.picture ≡ x.console.picture
sequence_unshown seen x bytes n count open_ shows waits within le =
    let len = length-take n bytes in
    ap (λ (l : List ℕ). (play x l).console.picture) (sym (front_within bytes count n (omega arith)))
    ∙ waits_unshown (take n bytes) count x (ap (λ (s : Console). s.title) shows.console ∙ open_.title) (shows.character ∙ open_.character) (waits x.sequence shows.state)

pub spelled_unshown : LawsBelow → (seen : Seen) (x : Term) (bytes : List ℕ) (c len count : ℕ) → IsOpen seen → seen.state ≡ Ground → Shows seen x
    → Spells (take len bytes) c → 0 < len → len ≤ length bytes → count ≤ len - 1
    → (play x (take count bytes)).console.picture ≡ x.console.picture
spelled_unshown laws seen x bytes c len count open_ ground shows spells some within le =
    let long = length-take len bytes in
    let here = at_ground laws seen x shows ground open_.character in
    ap (λ (l : List ℕ). (play x l).console.picture) (sym (front_within bytes count len (omega arith)))
    ∙ ap (λ (y : Term). (play y (take count (take len bytes))).console.picture) here
    ∙ ap (λ (s : Console). s.picture) (character_unshown seen.console x.reports (take len bytes) c count open_.title spells (omega arith))
    ∙ ap (λ (s : Console). s.picture) (sym shows.console)
