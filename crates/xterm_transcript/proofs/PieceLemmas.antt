-- What a piece of the bytes comes to.
use Rattle.std.proofs.Common.{◌≡◌, ℕ, zero, suc, ◌+◌, ◌<◌, ◌≤◌, Bool, true, false, not, cond, List, [], ◌∷◌, length, take, refl, sym, ap, ap₂, ◌∙◌, subst, inl, inr, ◌==◌, ◌&&◌, ◌||◌, nat_le, arith}
use Rattle.std.specs.Prelude.{Option, Some, None, slice_index}
use Rattle.std.specs.List.{list_all}
use Rattle.std.proofs.lemmas.Bool.{and_parts, cases_Bool, false≢true}
use Rattle.std.proofs.lemmas.Bool.Decides.{nat_tests}
use Rattle.std.proofs.lemmas.List.{length-take, take-take}
use Rattle.characters.specs.declared.utf8.Reading.TheVariants.{Character, More}
use Rattle.characters.specs.Utf8.{begins, reading, replacement, Spells}
use Rattle.vt_parser.specs.declared.commands.Mode.{Mode}
use Rattle.vt_parser.specs.declared.commands.Mode.TheVariants.{Ansi}
use Rattle.vt_parser.specs.declared.commands.Command.{Command}
use Rattle.vt_parser.specs.declared.commands.Command.TheVariants.{Show, Error, Control, Esc, Csi, Vt52, Vt52Address}
use Rattle.vt_parser.specs.declared.commands.Token.{Token}
use Rattle.vt_parser.specs.declared.commands.Token.TheVariants as token
use Rattle.vt_parser.specs.declared.states.ParserState.{ParserState}
use Rattle.vt_parser.specs.declared.states.ParserState.TheVariants.{Ground}
use Rattle.vt_parser.specs.declared.syntax.Context.{Context}
use Rattle.vt_parser.specs.Syntax.{action_of, escape, is_graphic, is_within}
use Rattle.vt_parser.specs.Forms.{is_string_begun}
use Rattle.vt_parser.specs.Machine.{context_in}
use Rattle.vt_parser.specs.View.{parser_view}
use Rattle.vt_parser.specs.Step.{command_of, context_of, mode_after, pending_after}
use Rattle.vt_parser.specs.Fold.{Gives, pending_after_bytes}
use Rattle.vt_parser.specs.Law.{fewest_bytes, fewest_of, is_sequence}
use Rattle.vt_parser.specs.Token.{command_of_token, Leads, TellsOf}
use Rattle.vt_parser.proofs.Agrees.{ground_is_empty, same_context}
use Rattle.vt_parser.proofs.LawLemmas.{control_is_given, finished_leaves_nothing, pending_pays}
use Rattle.xterm_screen.specs.Picture.{Picture}
use Rattle.xterm_term.specs.Between.{obeyed}
use Rattle.xterm_term.specs.Console.{Console}
use Rattle.xterm_term.specs.Effect.{effect}
use Rattle.xterm_term.specs.Puts.{character_for, is_c1}
use Rattle.xterm_term.specs.Reading.{GoesOn, Stands, is_ground_state}
use Rattle.xterm_term.specs.Seen.{Seen, Shows}
use Rattle.xterm_term.specs.Sets.{set_in_use}
use Rattle.xterm_term.specs.Term.{Term, ends_last, forgotten_if, is_control, is_ground, play, syntax_read}
use Rattle.xterm_term.proofs.Parts.{ground_shown}
use Rattle.xterm_term.proofs.Runs.{all_in_parts}
use Rattle.xterm_term.proofs.Taken.{IsNoShow, gives_on, goes_front, many_modes, pending_on, same_mode}
use Rattle.transcripts.specs.declared.home.After.{After}
use Rattle.transcripts.specs.declared.home.After.TheVariants.{Elsewhere, Kept}
use Rattle.transcripts.specs.declared.home.Place.{Place}
use Rattle.xterm_transcript.specs.declared.leaving.Leaving.{Leaving}
use Rattle.xterm_transcript.specs.declared.leaving.Leaving.TheVariants.{NoRow}
use Rattle.xterm_transcript.specs.declared.transcriber.Piece.{Piece}
use Rattle.xterm_transcript.specs.declared.transcriber.Transcriber.{Transcriber}
use Rattle.transcripts.specs.Acting.{place_in}
use Rattle.xterm_transcript.specs.Home.{acts, went_home}
use Rattle.xterm_transcript.specs.Leaving.{leaving, leaving_first, put_leaves}
use Rattle.xterm_transcript.specs.Playing.{Comes, HasRoom, IsPlayed, PlaysAlike, PlaysEither, PlaysToken, after_acting, after_command, after_put, home_by, repeated_off, told_by}
use Rattle.xterm_transcript.specs.Transcribed.{Transcribed, acts_at, play_on}
use Rattle.xterm_transcript.proofs.CommandLemmas.{Came, acting, at_made, came_escape, came_inside, came_one, made, step_is}
use Rattle.xterm_transcript.proofs.PartLemmas.{plays_term}
use Rattle.xterm_transcript.proofs.PutLemmas.{Puts, Waits, alien_puts, begun_waits, character_puts, first_is, last_puts, more_waits, run_puts, title_waits}
use Rattle.xterm_transcript.proofs.RepeatLemmas.{first_stays, off_title, plays_alike, repeats, told_either}

abbrev piece_of : ℕ → Leaving → After → Piece
piece_of n leaves after = record { taken = n; leaving = leaves; after = after }

-- the terminal's console is the term's
same_console : (now : Transcriber) (x : Transcribed) → IsPlayed now x → now.terminal.console ≡ x.term.console
same_console now x is = sym is.shows.console

title_of : (now : Transcriber) (x : Transcribed) (b : Bool) → IsPlayed now x → now.terminal.console.title ≡ b → x.term.console.title ≡ b
title_of now x b is title = ap (λ (s : Console). s.title) is.shows.console ∙ title

none_of : (now : Transcriber) (x : Transcribed) → IsPlayed now x → now.terminal.character ≡ [] → x.term.character ≡ []
none_of now x is none = is.shows.character ∙ none

-- ---- characters that are put

put_home : (c1 h : Bool) (p : Picture) → (c1 && h) ≡ home_by (cond c1 Kept Elsewhere) h p
put_home true h p = refl
put_home false h p = refl

comes_put : (x : Transcribed) (bytes : List ℕ) (n c : ℕ) (state : ParserState) → parser_view Ansi x.term.sequence ≡ Some state → Puts x bytes c
    → Comes x bytes (piece_of n (leaving_first (put_leaves c x.term.console)) (after_put c)) state
comes_put x bytes n c state view puts =
    let s = x.term.console in
    record {
      rows = puts.rows ∙ sym (first_is (put_leaves c s) s);
      shown = ap (parser_view Ansi) puts.sequence ∙ view;
      home = puts.home ∙ put_home (is_c1 c) x.home (play_on x bytes).term.console.picture;
      alike = λ seen shows. subst (λ (t : Term). Shows seen (play t bytes)) (first_stays (put_leaves c s) x.term) shows;
    }

-- the same by what the code says of the piece
put_piece : (now : Transcriber) (x : Transcribed) (bytes : List ℕ) (n c : ℕ) (piece : Piece) → IsPlayed now x → Puts x bytes c
    → piece.leaving ≡ leaving_first (put_leaves c now.terminal.console) → piece.after ≡ after_put c → Comes x bytes piece now.parser
put_piece now x bytes n c piece is puts leaves after =
    subst (λ (p : Piece). Comes x bytes p now.parser)
    (ap₂ (piece_of piece.taken)
    (ap (λ (s : Console). leaving_first (put_leaves c s)) is.shows.console ∙ sym leaves) (sym after))
    (comes_put x bytes piece.taken c now.parser is.state puts)

pub comes_last : (now : Transcriber) (x : Transcribed) (byte c : ℕ) (piece : Piece) → IsPlayed now x → 0 < length now.terminal.character
    → Character c ≡ reading now.terminal.character byte → piece.leaving ≡ leaving_first (put_leaves c now.terminal.console) → piece.after ≡ after_put c
    → Comes x (byte ∷ []) piece now.parser
comes_last now x byte c piece is some read leaves after =
    put_piece now x (byte ∷ []) 1 c piece is
    (last_puts x byte c (subst (λ (l : List ℕ). 0 < length l) (sym is.shows.character) some) (read ∙ ap (λ (l : List ℕ). reading l byte) (sym is.shows.character)))
    leaves after

ground_of : (now : Transcriber) (x : Transcribed) → IsPlayed now x → now.parser ≡ Ground → x.term.sequence ≡ []
ground_of now x is ground = ground_is_empty.1 Ansi x.term.sequence (is.state ∙ ap Some ground)

pub comes_character : (now : Transcriber) (x : Transcribed) (bytes : List ℕ) (c : ℕ) (piece : Piece) → IsPlayed now x → now.parser ≡ Ground
    → now.terminal.console.title ≡ false → now.terminal.character ≡ [] → Spells bytes c
    → piece.leaving ≡ leaving_first (put_leaves c now.terminal.console) → piece.after ≡ after_put c → Comes x bytes piece now.parser
comes_character now x bytes c piece is ground title none spells leaves after =
    put_piece now x bytes piece.taken c piece is
    (character_puts x bytes c (title_of now x false is title) (ground_of now x is ground) (none_of now x is none) spells) leaves after

pub comes_alien : (now : Transcriber) (x : Transcribed) (byte : ℕ) (piece : Piece) → IsPlayed now x → now.parser ≡ Ground
    → now.terminal.console.title ≡ false → now.terminal.character ≡ [] → nat_le 128 byte ≡ true → begins byte ≡ false
    → piece.leaving ≡ leaving_first (put_leaves replacement now.terminal.console) → piece.after ≡ after_put replacement
    → Comes x (byte ∷ []) piece now.parser
comes_alien now x byte piece is ground title none upper alone leaves after =
    put_piece now x (byte ∷ []) 1 replacement piece is
    (alien_puts x byte (title_of now x false is title) (ground_of now x is ground) (none_of now x is none) upper alone) leaves after

-- ---- a run

-- before each of its characters but the first no wrap is pending
free_of : (now : Transcriber) (x : Transcribed) (bytes : List ℕ) → IsPlayed now x → list_all is_graphic bytes ≡ true
    → (1 < length bytes → HasRoom now.terminal (length bytes))
    → (k : ℕ) → 0 < k → k < length bytes → (play x.term (take k bytes)).console.picture.wrap ≡ false
free_of now x bytes is graphic room k some lt =
    let has = room (omega (arith, some, lt)) in
    let s = x.term.console in
    let len : length (take k bytes) ≡ k = omega (arith, length-take k bytes, lt) in
    let fits : now.terminal.console.picture.column + length (take k bytes) ≤ now.terminal.console.picture.columns =
    omega (arith, len, has.room, lt) in
    let writes = has.writes x.term is.shows (take k bytes) (all_in_parts is_graphic bytes k graphic).0
    (subst (λ (t : Console). t.picture.column + length (take k bytes) ≤ t.picture.columns) (same_console now x is) fits) in
    ap (λ (p : Picture). p.wrap) writes ∙ ap (λ (t : Console). t.picture.wrap) is.shows.console ∙ has.wrap

pub comes_run : (now : Transcriber) (x : Transcribed) (bytes : List ℕ) (n : ℕ) (leaves : Leaving) → IsPlayed now x
    → now.parser ≡ Ground → now.terminal.console.title ≡ false → now.terminal.character ≡ [] → 0 < length bytes → list_all is_graphic bytes ≡ true
    → (1 < length bytes → HasRoom now.terminal (length bytes))
    → leaves ≡ leaving_first (put_leaves (character_for now.terminal.console (slice_index bytes 0)) now.terminal.console)
    → Comes x bytes (piece_of n leaves Elsewhere) now.parser
comes_run now x bytes n leaves is ground title none some graphic room leaves_is =
    let s = x.term.console in
    let on = ground_of now x is ground in
    let puts = run_puts bytes x (title_of now x false is title) on (none_of now x is none) some graphic
    (λ more. ap (λ (t : Console). set_in_use t.sets) is.shows.console ∙ (room more).ascii) (free_of now x bytes is graphic room) in
    let c = character_for s (slice_index bytes 0) in
    let leaves_are : leaving_first (put_leaves c s) ≡ leaves =
    ap (λ (t : Console). leaving_first (put_leaves (character_for t (slice_index bytes 0)) t)) is.shows.console ∙ sym leaves_is in
    subst (λ (l : Leaving). Comes x bytes (piece_of n l Elsewhere) now.parser) leaves_are (record {
      rows = puts.0 ∙ sym (first_is (put_leaves c s) s);
      shown = ap (parser_view Ansi) (puts.2 ∙ sym on) ∙ is.state;
      home = puts.1;
      alike = λ seen shows. subst (λ (t : Term). Shows seen (play t bytes)) (first_stays (put_leaves c s) x.term) shows;
    })

-- ---- bytes at which nothing happens yet

comes_waiting : (x : Transcribed) (byte : ℕ) (after : List ℕ) (piece : Piece) (state : ParserState) → parser_view Ansi after ≡ Some state → Waits x byte after
    → piece.leaving ≡ NoRow → piece.after ≡ Kept → Comes x (byte ∷ []) piece state
comes_waiting x byte after piece state view waits leaves after_is =
    subst (λ (p : Piece). Comes x (byte ∷ []) p state) (ap₂ (piece_of piece.taken) (sym leaves) (sym after_is)) (record {
      rows = waits.rows;
      shown = ap (parser_view Ansi) waits.sequence ∙ view;
      home = waits.home;
      alike = λ seen shows. shows;
    })

pub comes_more : (now : Transcriber) (x : Transcribed) (byte : ℕ) (piece : Piece) → IsPlayed now x → 0 < length now.terminal.character
    → More ≡ reading now.terminal.character byte → piece.leaving ≡ NoRow → piece.after ≡ Kept → Comes x (byte ∷ []) piece now.parser
comes_more now x byte piece is some read leaves after =
    comes_waiting x byte x.term.sequence piece now.parser is.state
    (more_waits x byte (subst (λ (l : List ℕ). 0 < length l) (sym is.shows.character) some) (read ∙ ap (λ (l : List ℕ). reading l byte) (sym is.shows.character)))
    leaves after

pub comes_begun : (now : Transcriber) (x : Transcribed) (byte : ℕ) (piece : Piece) → IsPlayed now x → now.parser ≡ Ground
    → now.terminal.console.title ≡ false → now.terminal.character ≡ [] → begins byte ≡ true → piece.leaving ≡ NoRow → piece.after ≡ Kept
    → Comes x (byte ∷ []) piece now.parser
comes_begun now x byte piece is ground title none begun leaves after =
    let on = ground_of now x is ground in
    comes_waiting x byte [] piece now.parser (ap (parser_view Ansi) (sym on) ∙ is.state)
    (begun_waits x byte (title_of now x false is title) on (none_of now x is none) begun) leaves after

-- in a title ESC is read, and no other byte
pub comes_title : (now : Transcriber) (x : Transcribed) (byte : ℕ) (piece : Piece) (state : ParserState) → IsPlayed now x
    → now.terminal.console.title ≡ true → now.terminal.character ≡ []
    → parser_view Ansi (cond (byte == escape) (pending_after Ansi x.term.sequence byte) x.term.sequence) ≡ Some state
    → piece.leaving ≡ NoRow → piece.after ≡ Kept → Comes x (byte ∷ []) piece state
comes_title now x byte piece state is title none view leaves after =
    comes_waiting x byte _ piece state view (title_waits x byte (title_of now x true is title) (none_of now x is none)) leaves after

-- ---- what the control syntax gives

-- whether something ends there
abbrev ends_at : List ℕ → List ℕ → Bool
ends_at p [] = false
ends_at p (byte ∷ []) = ends_last p byte
ends_at p (byte ∷ next ∷ rest) = is_ground (pending_after_bytes Ansi Ansi p (byte ∷ next ∷ rest))

low_of : (p : List ℕ) (byte : ℕ) → (p ≡ [] → nat_le 128 byte ≡ false) → (is_ground p && nat_le 128 byte) ≡ false
low_of [] byte low = low refl
low_of (b ∷ rest) byte low = refl

inside_or_escape : (byte next : ℕ) (rest : List ℕ) (s : Console) (p r : List ℕ) (command : Option Command) (state : ParserState) → s.title ≡ false
    → Stands p state → GoesOn state (byte ∷ next ∷ rest) → Gives Ansi Ansi p (byte ∷ next ∷ rest) command → IsNoShow command
    → Came (made s p r false) (byte ∷ next ∷ rest) command (pending_after_bytes Ansi Ansi p (byte ∷ next ∷ rest))
    (is_ground (pending_after_bytes Ansi Ansi p (byte ∷ next ∷ rest)))
inside_or_escape byte next rest s p r command state title stands goes gives none = elim goes.1 [
  | inl same_ ↦
      subst (λ (b : ℕ). Gives Ansi Ansi p (b ∷ next ∷ rest) command
      → Came (made s p r false) (b ∷ next ∷ rest) command (pending_after_bytes Ansi Ansi p (b ∷ next ∷ rest))
      (is_ground (pending_after_bytes Ansi Ansi p (b ∷ next ∷ rest)))) (sym same_)
      (λ given. came_escape next rest s p r command title goes.0 given none) gives
  | inr inside ↦
      came_inside byte (next ∷ rest) s p r command title (sym (ground_shown p state stands) ∙ inside.1) (both inside.0 goes.0) gives none
]
  where
    both : {a b : Bool} → a ≡ true → b ≡ true → (a && b) ≡ true
    both one other = simp (one, other)

came_made : (bytes : List ℕ) (s : Console) (p r : List ℕ) (h : Bool) (command : Option Command) (state : ParserState) → s.title ≡ false → Stands p state
    → 0 < length bytes → (1 < length bytes → (h ≡ false) × GoesOn state bytes) → (p ≡ [] → nat_le 128 (slice_index bytes 0) ≡ false)
    → Gives Ansi Ansi p bytes command → IsNoShow command
    → Came (made s p r h) bytes command (pending_after_bytes Ansi Ansi p bytes) (ends_at p bytes)
came_made [] s p r h command state title stands some many low gives none = absurd (omega arith)
came_made (byte ∷ []) s p r h command state title stands some many low gives none =
    came_one s p r h byte command title (low_of p byte low) gives
came_made (byte ∷ next ∷ rest) s p r h command state title stands some many low gives none =
    let goes = many (omega arith) in
    subst (λ (b : Bool). Came (made s p r b) (byte ∷ next ∷ rest) command (pending_after_bytes Ansi Ansi p (byte ∷ next ∷ rest))
    (is_ground (pending_after_bytes Ansi Ansi p (byte ∷ next ∷ rest)))) (sym goes.0)
    (inside_or_escape byte next rest s p r command state title stands goes.1 gives none)

came_piece : (x : Transcribed) (bytes : List ℕ) (command : Option Command) (state : ParserState) → x.term.console.title ≡ false → x.term.character ≡ []
    → Stands x.term.sequence state → 0 < length bytes → (1 < length bytes → (x.home ≡ false) × GoesOn state bytes)
    → (x.term.sequence ≡ [] → nat_le 128 (slice_index bytes 0) ≡ false)
    → Gives Ansi Ansi x.term.sequence bytes command → IsNoShow command
    → Came x bytes command (pending_after_bytes Ansi Ansi x.term.sequence bytes) (ends_at x.term.sequence bytes)
came_piece x bytes command state title none stands some many low gives no_show =
    let p = x.term.sequence in
    subst (λ (y : Transcribed). Came y bytes command (pending_after_bytes Ansi Ansi p bytes) (ends_at p bytes)) (sym (at_made x none))
    (came_made bytes x.term.console p x.term.reports x.home command state title stands some many low gives no_show)

-- a sequence that is finished leaves nothing
leaves_nothing : (bytes p : List ℕ) (it : Command) → Gives Ansi Ansi p bytes (Some it) → is_sequence it ≡ true → pending_after_bytes Ansi Ansi p bytes ≡ []
leaves_nothing [] p it gives is = absurd cc
leaves_nothing (byte ∷ []) p it gives is = finished_leaves_nothing Ansi p byte it gives is
leaves_nothing (byte ∷ next ∷ rest) p it gives is =
    pending_on p (next ∷ rest) byte
    ∙ leaves_nothing (next ∷ rest) (pending_after Ansi p byte) it (gives_on p (next ∷ rest) byte (Some it) gives.1) is

ends_true : (bytes p : List ℕ) (it : Command) → 0 < length bytes → Gives Ansi Ansi p bytes (Some it) → is_sequence it ≡ true → 2 ≤ fewest_bytes it
    → ends_at p bytes ≡ true
ends_true [] p it some gives is long = absurd (omega arith)
ends_true (byte ∷ []) [] it some gives is long =
    let pays = pending_pays Ansi [] byte in
    let few : fewest_of (command_of Ansi [] byte) ≡ fewest_bytes it = ap fewest_of gives in
    absurd (omega (arith, pays, few, long))
ends_true (byte ∷ []) (b ∷ p) it some gives is long =
    ap (λ (l : List ℕ). (is_control byte && not (is_string_begun (b ∷ p))) || (not false && is_ground l)) (finished_leaves_nothing Ansi (b ∷ p) byte it gives is) ∙ or_true _
  where
    or_true : (b : Bool) → (b || true) ≡ true
    or_true true = refl
    or_true false = refl
ends_true (byte ∷ next ∷ rest) p it some gives is long = ap is_ground (leaves_nothing (byte ∷ next ∷ rest) p it gives is)

-- ---- a command

-- no run came
told_command : (p bytes : List ℕ) (it : Token) → TellsOf Ansi Ansi p bytes (Some it) → 0 < length bytes
    → (p ≡ [] → is_graphic (slice_index bytes 0) ≡ false)
    → Gives Ansi Ansi p bytes (Some (command_of_token it)) × IsNoShow (Some (command_of_token it))
told_command p [] it told some off = absurd (omega arith)
told_command p (byte ∷ rest) (token.Show run) told some off =
    absurd (false≢true (sym (off told.ground) ∙ (and_parts (is_graphic byte) (list_all is_graphic rest) told.graphic).0))
told_command p (byte ∷ rest) it told some off = (told, tt)

on_ground_shown : (now : Transcriber) (x : Transcribed) → IsPlayed now x → x.term.sequence ≡ [] → now.parser ≡ Ground
on_ground_shown now x is none =
    let same_ : Some now.parser ≡ Some Ground = sym is.state ∙ ap (parser_view Ansi) none ∙ ground_is_empty.0 Ansi in cc

state_then : (p bytes : List ℕ) (old state : ParserState) → Stands p old → Leads old Ansi bytes state
    → parser_view Ansi (pending_after_bytes Ansi Ansi p bytes) ≡ Some state
state_then p bytes old state stands leads =
    ap (λ (m : Mode). parser_view m (pending_after_bytes Ansi Ansi p bytes)) (sym (many_modes bytes)) ∙ leads Ansi p stands

-- told or not, the bytes play to the same
alike_by : (x : Transcribed) (bytes : List ℕ) (command : Command) (state : ParserState) → x.term.console.title ≡ false → x.term.character ≡ []
    → Stands x.term.sequence state → 0 < length bytes → (1 < length bytes → (x.home ≡ false) × GoesOn state bytes)
    → (x.term.sequence ≡ [] → nat_le 128 (slice_index bytes 0) ≡ false)
    → Gives Ansi Ansi x.term.sequence bytes (Some command) → IsNoShow (Some command)
    → PlaysAlike (told_by (leaving command x.home x.term.console) x.term) x.term bytes
alike_by x bytes command state title none stands some many low gives no_show =
    elim (told_either (leaving command x.home x.term.console)) [
      | inl still ↦ λ seen shows. subst (λ (t : Term). Shows seen (play t bytes)) (still x.term) shows
      | inr repeated ↦
          let n = repeated.0 in
          let it = repeats command x.home x.term.console n repeated.1 in
          let y : Transcribed = record { term = repeated_off n x.term; home = x.home } in
          subst (λ (l : Leaving). PlaysAlike (told_by l x.term) x.term bytes) (sym repeated.1)
          (plays_alike x n bytes (pending_after_bytes Ansi Ansi x.term.sequence bytes) command (ends_at x.term.sequence bytes) it
          (ends_true bytes x.term.sequence command some gives it.whole it.long)
          (came_piece x bytes (Some command) state title none stands some many low gives no_show)
          (came_piece y bytes (Some command) state (off_title n x.term ∙ title) none stands some many low gives no_show))
    ]

pub comes_command : (now : Transcriber) (x : Transcribed) (bytes : List ℕ) (n : ℕ) (it : Token) (leaves : Leaving) (after : After) (state : ParserState)
    → IsPlayed now x → now.terminal.console.title ≡ false → now.terminal.character ≡ [] → 0 < length bytes
    → (1 < length bytes → (now.home ≡ false) × GoesOn now.parser bytes)
    → (now.parser ≡ Ground → is_graphic (slice_index bytes 0) ≡ false) → (now.parser ≡ Ground → nat_le 128 (slice_index bytes 0) ≡ false)
    → ((mode : Mode) (pending : List ℕ) → parser_view mode pending ≡ Some now.parser → TellsOf Ansi mode pending bytes (Some it))
    → Leads now.parser Ansi bytes state
    → leaves ≡ leaving (command_of_token it) now.home now.terminal.console → after ≡ after_command (command_of_token it)
    → Comes x bytes (piece_of n leaves after) state
comes_command now x bytes n it leaves after state is title none some many off low told leads leaves_is after_is =
    let command = command_of_token it in
    let p = x.term.sequence in
    let given = told_command p bytes it (told Ansi p is.state) some (λ ground. off (on_ground_shown now x is ground)) in
    let title_ = title_of now x false is title in
    let none_ = none_of now x is none in
    let many_ : 1 < length bytes → (x.home ≡ false) × GoesOn now.parser bytes = λ more. (sym is.home ∙ (many more).0, (many more).1) in
    let low_ = λ (ground : p ≡ []). low (on_ground_shown now x is ground) in
    let came = came_piece x bytes (Some command) now.parser title_ none_ is.state some many_ low_ given.0 given.1 in
    let y = play_on x bytes in
    let leaves_are : leaving command x.home x.term.console ≡ leaves =
    ap₂ (leaving command) (sym is.home) is.shows.console ∙ sym leaves_is in
    subst (λ (q : Piece). Comes x bytes q state) (ap₂ (piece_of n) leaves_are (sym after_is)) (record {
      rows = came.rows;
      shown = ap (parser_view Ansi) came.sequence ∙ state_then p bytes now.parser state is.state leads;
      home = came.given command refl;
      alike = alike_by x bytes command now.parser title_ none_ is.state some many_ low_ given.0 given.1;
    })

-- ---- nothing

elsewhere : (b : Bool) (p : Picture) → home_by (after_acting b) false p ≡ false
elsewhere true p = refl
elsewhere false p = refl

-- nothing is pending just where the state is on ground
pub done_is : (state : ParserState) (done : Bool) → (done ≡ true → state ≡ Ground) → (state ≡ Ground → done ≡ true) → is_ground_state state ≡ done
done_is state true ground other = ap is_ground_state (ground refl)
done_is Ground false ground other = let no = other refl in absurd cc
done_is _ false ground other = refl

empty_is : (p : List ℕ) (state : ParserState) (done : Bool) → Stands p state → (done ≡ true → state ≡ Ground) → (state ≡ Ground → done ≡ true)
    → is_ground p ≡ done
empty_is p state done stands ground other = sym (ground_shown p state stands) ∙ done_is state done ground other

single_home : (s : Console) (p r : List ℕ) (h : Bool) (byte : ℕ) (place : Place) (done : Bool) (after : After) → s.title ≡ false
    → (is_ground p && nat_le 128 byte) ≡ false → command_of Ansi p byte ≡ None → place_in place ≡ context_of Ansi p
    → is_ground (pending_after Ansi p byte) ≡ done
    → ((pending : List ℕ) → is_ground pending ≡ done → after ≡ after_acting (acts (action_of (place_in place) byte) pending))
    → (play_on (made s p r h) (byte ∷ [])).home ≡ home_by after h (play_on (made s p r h) (byte ∷ [])).term.console.picture
unfolding play_on
single_home s p r h byte place done after title low none at empty after_is =
    let y = play_on (made s p r h) (byte ∷ []) in
    let pending = pending_after Ansi p byte in
    ap (λ (z : Transcribed). z.home) (step_is s p r h byte title low)
    ∙ ap (λ (c : Option Command). cond (acts_at p byte) (went_home c (syntax_read s p byte).console.picture) h) none
    ∙ ap (λ (c : Context). cond (acts (action_of c byte) pending) false h) (sym at)
    ∙ acting (acts (action_of (place_in place) byte) pending) h y.term.console.picture
    ∙ ap (λ (a : After). home_by a h y.term.console.picture) (sym (after_is pending empty))

nothing_home : (x : Transcribed) (bytes : List ℕ) (state : ParserState) (place : Place) (done : Bool) (after : After) → x.term.console.title ≡ false
    → x.term.character ≡ [] → 0 < length bytes → (1 < length bytes → x.home ≡ false) → (x.term.sequence ≡ [] → nat_le 128 (slice_index bytes 0) ≡ false)
    → Gives Ansi Ansi x.term.sequence bytes None → Came x bytes None (pending_after_bytes Ansi Ansi x.term.sequence bytes) (ends_at x.term.sequence bytes)
    → place_in place ≡ context_of Ansi x.term.sequence → is_ground (pending_after_bytes Ansi Ansi x.term.sequence bytes) ≡ done
    → ((pending : List ℕ) → is_ground pending ≡ done → after ≡ after_acting (acts (action_of (place_in place) (slice_index bytes 0)) pending))
    → (play_on x bytes).home ≡ home_by after x.home (play_on x bytes).term.console.picture
nothing_home x [] state place done after title none some many low gives came at empty after_is = absurd (omega arith)
nothing_home x (byte ∷ []) state place done after title none some many low gives came at empty after_is =
    subst (λ (y : Transcribed). (play_on y (byte ∷ [])).home ≡ home_by after x.home (play_on y (byte ∷ [])).term.console.picture) (sym (at_made x none))
    (single_home x.term.console x.term.sequence x.term.reports x.home byte place done after title (low_of x.term.sequence byte low) gives at empty after_is)
nothing_home x (byte ∷ next ∷ rest) state place done after title none some many low gives came at empty after_is =
    let off = many (omega arith) in
    let y = play_on x (byte ∷ next ∷ rest) in
    let pending = pending_after_bytes Ansi Ansi x.term.sequence (byte ∷ next ∷ rest) in
    came.none refl off
    ∙ sym (ap₂ (λ (a : After) (h : Bool). home_by a h y.term.console.picture) (after_is pending empty) off
    ∙ elsewhere (acts (action_of (place_in place) byte) pending) y.term.console.picture)

pub comes_nothing : (now : Transcriber) (x : Transcribed) (bytes : List ℕ) (n : ℕ) (place : Place) (done : Bool) (after : After) (state : ParserState)
    → IsPlayed now x → now.terminal.console.title ≡ false → now.terminal.character ≡ [] → 0 < length bytes
    → (1 < length bytes → (now.home ≡ false) × GoesOn now.parser bytes) → (now.parser ≡ Ground → nat_le 128 (slice_index bytes 0) ≡ false)
    → ((mode : Mode) (pending : List ℕ) → parser_view mode pending ≡ Some now.parser → Gives Ansi mode pending bytes None)
    → Leads now.parser Ansi bytes state → place_in place ≡ context_in now.parser
    → (done ≡ true → state ≡ Ground) → (state ≡ Ground → done ≡ true)
    → ((pending : List ℕ) → is_ground pending ≡ done → after ≡ after_acting (acts (action_of (place_in place) (slice_index bytes 0)) pending))
    → Comes x bytes (piece_of n NoRow after) state
comes_nothing now x bytes n place done after state is title none some many low told leads at ground other after_is =
    let p = x.term.sequence in
    let gives = told Ansi p is.state in
    let title_ = title_of now x false is title in
    let none_ = none_of now x is none in
    let many_ : 1 < length bytes → (x.home ≡ false) × GoesOn now.parser bytes = λ more. (sym is.home ∙ (many more).0, (many more).1) in
    let low_ = λ (on : p ≡ []). low (on_ground_shown now x is on) in
    let came = came_piece x bytes None now.parser title_ none_ is.state some many_ low_ gives tt in
    let there = state_then p bytes now.parser state is.state leads in
    record {
      rows = came.rows;
      shown = ap (parser_view Ansi) came.sequence ∙ there;
      home = nothing_home x bytes state place done after title_ none_ some (λ more. (many_ more).0) low_ gives came
          (at ∙ sym (same_context Ansi p now.parser is.state)) (empty_is (pending_after_bytes Ansi Ansi p bytes) state done there ground other) after_is;
      alike = λ seen shows. shows;
    }

pub first_of : (n : ℕ) (bytes : List ℕ) → 0 < n → slice_index (take n bytes) 0 ≡ slice_index bytes 0
first_of zero bytes some = absurd (omega arith)
first_of (suc n) [] some = refl
first_of (suc n) (byte ∷ rest) some = refl

-- where more than one byte is taken, it isn't directly behind home, and they go on
pub many_of : (now : Transcriber) (bytes : List ℕ) (n k : ℕ) → n ≤ k → (now.home ≡ true → k ≡ 1) → (1 < k → GoesOn now.parser (take k bytes))
    → 1 < length (take n bytes) → (now.home ≡ false) × GoesOn now.parser (take n bytes)
many_of now bytes n k le one goes more =
    let len = length-take n bytes in
    let some : 1 < n = omega (arith, len, more) in
    let off : now.home ≡ false = elim (cases_Bool now.home) [
      | inl on ↦ absurd (omega (arith, one on, some, le))
      | inr off ↦ off
    ] in
    (off, subst (GoesOn now.parser) (take-take n k bytes le) (goes_front now.parser (take k bytes) n (omega (arith, some)) (goes (omega (arith, some, le)))))

-- room for fewer
pub room_less : (seen : Seen) (n k : ℕ) → n ≤ k → HasRoom seen k → HasRoom seen n
room_less seen n k le has = record { writes = has.writes; ascii = has.ascii; wrap = has.wrap; room = omega (arith, has.room, le) }

-- ---- what is obeyed

long_sequence : (command : Command) → is_sequence command ≡ true → 2 ≤ fewest_bytes command
long_sequence (Show byte) is = absurd cc
long_sequence Error is = absurd cc
long_sequence (Control byte) is = absurd cc
long_sequence (Esc inter last) is = omega arith
long_sequence (Csi private params last) is = omega arith
long_sequence (Vt52 last) is = omega arith
long_sequence (Vt52Address line column) is = omega arith

-- where nothing is pending before a sequence, obeying its command is playing its bytes
obeyed_shows : (y : Transcribed) (bytes : List ℕ) (command : Command) (state : ParserState) (seen : Seen) → y.term.console.title ≡ false
    → y.term.character ≡ [] → Stands y.term.sequence state → 0 < length bytes → (1 < length bytes → (y.home ≡ false) × GoesOn state bytes)
    → (y.term.sequence ≡ [] → nat_le 128 (slice_index bytes 0) ≡ false) → Gives Ansi Ansi y.term.sequence bytes (Some command) → IsNoShow (Some command)
    → y.term.sequence ≡ [] → is_sequence command ≡ true → Shows seen (obeyed command y.term) → Shows seen (play y.term bytes)
obeyed_shows y bytes command state seen title none stands some many low gives no_show empty whole shows =
    let came = came_piece y bytes (Some command) state title none stands some many low gives no_show in
    let over = ends_true bytes y.term.sequence command some gives whole (long_sequence command whole) in
    let nothing = leaves_nothing bytes y.term.sequence command gives whole in
    let plays = sym (plays_term y bytes) in
    record {
      console = ap (λ (t : Term). t.console) plays ∙ came.console ∙ ap (λ (b : Bool). forgotten_if b (effect command y.term.console)) over ∙ shows.console;
      state = ap (λ (t : Term). parser_view Ansi t.sequence) plays ∙ ap (parser_view Ansi) (came.sequence ∙ nothing ∙ sym empty) ∙ shows.state;
      character = ap (λ (t : Term). t.character) plays ∙ came.character ∙ sym none ∙ shows.character;
    }

either_plays : (b : Bool) (command : Command) (t : Term) (bytes : List ℕ) (seen : Seen)
    → (b ≡ true → Shows seen (obeyed command t) → Shows seen (play t bytes)) → PlaysEither b command t bytes seen → Shows seen (play t bytes)
either_plays true command t bytes seen obeys is = obeys refl is
either_plays false command t bytes seen obeys is = is

-- ---- a control on ground

module _ (now : Transcriber) (x : Transcribed) (is : IsPlayed now x) (byte : ℕ) (title : now.terminal.console.title ≡ false)
    (none : now.terminal.character ≡ []) (ground : now.parser ≡ Ground) (effective : is_within 8 15 byte ≡ true) where
  not_upper : nat_le 128 byte ≡ false
  not_upper = grind (arith, nat_tests)

  not_graphic : is_graphic byte ≡ false
  not_graphic = grind (arith, nat_tests)

  control_is : is_control byte ≡ true
  control_is = grind (arith, nat_tests)

  given_then : (mode : Mode) (pending : List ℕ) → parser_view mode pending ≡ Some now.parser
      → (command_of mode pending byte ≡ Some (Control byte)) × (pending_after mode pending byte ≡ [])
  given_then mode pending view =
      let empty : pending ≡ [] = ground_is_empty.1 mode pending (view ∙ ap Some ground) in
      subst (λ (l : List ℕ). (command_of mode l byte ≡ Some (Control byte)) × (pending_after mode l byte ≡ [])) (sym empty) (control_is_given mode byte effective)

  pub control_comes : (leaves : Leaving) → leaves ≡ leaving (Control byte) now.home now.terminal.console
      → Comes x (byte ∷ []) (piece_of 1 leaves Elsewhere) now.parser
  control_comes leaves leaves_is =
      comes_command now x (byte ∷ []) 1 (token.Control byte) leaves Elsewhere now.parser is title none (omega arith) (λ more. absurd (omega (arith, more)))
      (λ on. not_graphic) (λ on. not_upper) (λ mode pending view. (given_then mode pending view).0)
      (λ mode pending view. ap (parser_view (mode_after Ansi mode byte)) (given_then mode pending view).1 ∙ ground_is_empty.0 _ ∙ ap Some (sym ground))
      leaves_is refl

  pub control_shows : (seen : Seen) → Shows seen (obeyed (Control byte) x.term) → Shows seen (play x.term (byte ∷ []))
  control_shows seen shows =
      let given = given_then Ansi x.term.sequence is.state in
      let empty = ground_of now x is ground in
      let came = came_piece x (byte ∷ []) (Some (Control byte)) now.parser (title_of now x false is title) (none_of now x is none) is.state (omega arith)
      (λ more. absurd (omega (arith, more))) (λ on. not_upper) given.0 tt in
      let over : ends_at x.term.sequence (byte ∷ []) ≡ true = ap (λ (l : List ℕ). ends_last l byte) empty ∙ simp control_is in
      let plays = sym (plays_term x (byte ∷ [])) in
      record {
        console = ap (λ (t : Term). t.console) plays ∙ came.console ∙ ap (λ (b : Bool). forgotten_if b (effect (Control byte) x.term.console)) over
            ∙ shows.console;
        state = ap (λ (t : Term). parser_view Ansi t.sequence) plays ∙ ap (parser_view Ansi) (came.sequence ∙ given.1 ∙ sym empty) ∙ shows.state;
        character = ap (λ (t : Term). t.character) plays ∙ came.character ∙ sym (none_of now x is none) ∙ shows.character;
      }

-- ---- some of the bytes, as the parser takes them

module _ (now : Transcriber) (x : Transcribed) (is : IsPlayed now x) (bytes : List ℕ) (most n : ℕ) (state : ParserState)
    (title : now.terminal.console.title ≡ false) (none : now.terminal.character ≡ []) (some : 0 < n) (within : n ≤ length (take most bytes))
    (one : now.home ≡ true → most ≡ 1) (goes : 1 < most → GoesOn now.parser (take most bytes))
    (low : now.parser ≡ Ground → nat_le 128 (slice_index bytes 0) ≡ false) (leads : Leads now.parser Ansi (take n (take most bytes)) state) where
  few : n ≤ most
  few = omega (arith, within, length-take most bytes)

  taken : take n (take most bytes) ≡ take n bytes
  taken = take-take n most bytes few

  long : 0 < length (take n bytes)
  long = omega (arith, length-take n bytes, length-take most bytes, within, some)

  many : 1 < length (take n bytes) → (now.home ≡ false) × GoesOn now.parser (take n bytes)
  many = many_of now bytes n most few one goes

  lower : now.parser ≡ Ground → nat_le 128 (slice_index (take n bytes) 0) ≡ false
  lower on = ap (nat_le 128) (first_of n bytes some) ∙ low on

  led : Leads now.parser Ansi (take n bytes) state
  led = subst (λ l. Leads now.parser Ansi l state) taken leads

  module _ (it : Token) (off : now.parser ≡ Ground → is_graphic (slice_index bytes 0) ≡ false)
      (told : (mode : Mode) (pending : List ℕ) → parser_view mode pending ≡ Some now.parser → TellsOf Ansi mode pending (take n (take most bytes)) (Some it)) where
    offer : now.parser ≡ Ground → is_graphic (slice_index (take n bytes) 0) ≡ false
    offer on = ap is_graphic (first_of n bytes some) ∙ off on

    tells : (mode : Mode) (pending : List ℕ) → parser_view mode pending ≡ Some now.parser → TellsOf Ansi mode pending (take n bytes) (Some it)
    tells mode pending view = subst (λ l. TellsOf Ansi mode pending l (Some it)) taken (told mode pending view)

    pub command_next : (leaves : Leaving) (after : After) → leaves ≡ leaving (command_of_token it) now.home now.terminal.console
        → after ≡ after_command (command_of_token it) → Comes x (take n bytes) (piece_of n leaves after) state
    command_next leaves after leaves_is after_is =
        comes_command now x (take n bytes) n it leaves after state is title none long many offer lower tells led leaves_is after_is

    pub plays_next : (l : Leaving) (ground : Bool) (seen : Seen) → (ground ≡ true → now.parser ≡ Ground)
        → PlaysToken ground (command_of_token it) (told_by l x.term) (take n bytes) seen → Shows seen (play (told_by l x.term) (take n bytes))
    plays_next l ground seen grounded plays =
        let command = command_of_token it in
        let p = x.term.sequence in
        let given = told_command p (take n bytes) it (tells Ansi p is.state) long (λ empty. offer (on_ground_shown now x is empty)) in
        let title_ = title_of now x false is title in
        let none_ = none_of now x is none in
        let many_ : 1 < length (take n bytes) → (x.home ≡ false) × GoesOn now.parser (take n bytes) = λ more. (sym is.home ∙ (many more).0, (many more).1) in
        let low_ = λ (empty : p ≡ []). lower (on_ground_shown now x is empty) in
        either_plays (ground && is_sequence command) command (told_by l x.term) (take n bytes) seen
        (λ both shows.
        let parts = and_parts ground (is_sequence command) both in
        let empty = ground_of now x is (grounded parts.0) in
        elim (told_either l) [
          | inl still ↦
              subst (λ (t : Term). Shows seen (play t (take n bytes))) (sym (still x.term))
              (obeyed_shows x (take n bytes) command now.parser seen title_ none_ is.state long many_ low_ given.0 given.1 empty parts.1
              (subst (λ (t : Term). Shows seen (obeyed command t)) (still x.term) shows))
          | inr repeated ↦
              let k = repeated.0 in
              let y : Transcribed = record { term = repeated_off k x.term; home = x.home } in
              subst (λ (m : Leaving). Shows seen (play (told_by m x.term) (take n bytes))) (sym repeated.1)
              (obeyed_shows y (take n bytes) command now.parser seen (off_title k x.term ∙ title_) none_ is.state long many_ low_ given.0 given.1 empty parts.1
              (subst (λ (m : Leaving). Shows seen (obeyed command (told_by m x.term))) repeated.1 shows))
        ])
        plays

  pub none_next : (place : Place) (done : Bool) (piece : Piece)
      → ((mode : Mode) (pending : List ℕ) → parser_view mode pending ≡ Some now.parser → Gives Ansi mode pending (take n (take most bytes)) None)
      → place_in place ≡ context_in now.parser → (done ≡ true → state ≡ Ground) → (state ≡ Ground → done ≡ true) → piece.leaving ≡ NoRow
      → ((pending : List ℕ) → is_ground pending ≡ done → piece.after ≡ after_acting (acts (action_of (place_in place) (slice_index bytes 0)) pending))
      → Comes x (take n bytes) piece state
  none_next place done piece gives at ground other leaves after_is =
      subst (λ (l : Leaving). Comes x (take n bytes) (piece_of piece.taken l piece.after) state) (sym leaves)
      (comes_nothing now x (take n bytes) piece.taken place done piece.after state is title none long many lower
      (λ mode pending view. subst (λ l. Gives Ansi mode pending l None) taken (gives mode pending view)) led at ground other
      (λ pending empty.
      after_is pending empty ∙ ap (λ byte. after_acting (acts (action_of (place_in place) byte) pending)) (sym (first_of n bytes some))))

-- ---- in a title

pub title_escape : (p : List ℕ) (byte : ℕ) (state : ParserState) → (byte == escape) ≡ true
    → parser_view (mode_after Ansi Ansi byte) (pending_after Ansi p byte) ≡ Some state
    → parser_view Ansi (cond (byte == escape) (pending_after Ansi p byte) p) ≡ Some state
title_escape p byte state is view =
    ap (λ b. parser_view Ansi (cond b (pending_after Ansi p byte) p)) is
    ∙ ap (λ (m : Mode). parser_view m (pending_after Ansi p byte)) (sym (same_mode byte)) ∙ view

pub title_other : (p : List ℕ) (byte : ℕ) (state : ParserState) → (byte == escape) ≡ false → parser_view Ansi p ≡ Some state
    → parser_view Ansi (cond (byte == escape) (pending_after Ansi p byte) p) ≡ Some state
title_other p byte state is view = ap (λ b. parser_view Ansi (cond b (pending_after Ansi p byte) p)) is ∙ view

pub one_of : (bytes : List ℕ) → 0 < length bytes → slice_index bytes 0 ∷ [] ≡ take 1 bytes
one_of [] some = absurd (omega arith)
one_of (byte ∷ rest) some = refl
