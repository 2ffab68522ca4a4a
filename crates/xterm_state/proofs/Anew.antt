-- Whatever a terminal is in, it begins anew.
use Rattle.std.proofs.Common.{◌≡◌, ℕ, Bool, true, false, List, [], ◌∷◌, ◌++◌, refl, sym, ap, ap₂, inl, inr, ◌∙◌}
use Rattle.std.specs.Prelude.{◌&&◌, Option, None, if◌then◌else◌, not}
use Rattle.std.specs.List.{list_all}
use Rattle.std.proofs.lemmas.Bool.{and_parts, cases_Bool}
use Rattle.std.proofs.lemmas.List.{append-nil}
use Rattle.characters.specs.declared.utf8.Reading.{Reading}
use Rattle.characters.specs.declared.utf8.Reading.TheVariants.{Character, More, Broken}
use Rattle.characters.specs.Utf8.{Row, code_point, is_whole as is_whole_character, is_within, reading, replacement, row_in, row_of, table}
use Rattle.vt_parser.specs.declared.commands.Mode.TheVariants.{Ansi}
use Rattle.vt_parser.specs.declared.commands.Command.{Command}
use Rattle.vt_parser.specs.declared.syntax.Context.{Context}
use Rattle.vt_parser.specs.declared.syntax.Context.TheVariants.{Ground, Sequence, Text}
use Rattle.vt_parser.specs.declared.syntax.Action.{Action}
use Rattle.vt_parser.specs.declared.syntax.Action.TheVariants.{Begin}
use Rattle.vt_parser.specs.Forms.{is_whole, meaning}
use Rattle.vt_parser.specs.Step.{context_of, command_of, command_by, pending_after, pending_by}
use Rattle.vt_parser.specs.Syntax.{action_of}
use Rattle.xterm_term.specs.Console.{Console, reset_console}
use Rattle.xterm_term.specs.Effect.{effect, reply}
use Rattle.xterm_term.specs.Puts.{put}
use Rattle.xterm_term.specs.Replies.{reply_of}
use Rattle.xterm_term.specs.Rows.{effect_of}
use Rattle.xterm_term.specs.Term.{Term, Outcome, ends_last, forgotten_if, gone_on, is_ground, outcome, outcome_of, play, read, step, title_set}
use Rattle.xterm_term.proofs.ByteKinds.{other, titled}
use Rattle.xterm_term.proofs.Runs.{on_ground, stepped}
use Rattle.xterm_term.proofs.Stays.{size_stays}
use Rattle.xterm_escaped.proofs.Led.{behind, same_title, stepped_by}
use Rattle.xterm_state.specs.StateText.{anew_text}

-- ---- ESC

-- ESC begins a sequence wherever it comes
begins : (at : Context) → action_of at 27 ≡ Begin
begins Ground = refl
begins Sequence = refl
begins Text = refl

no_command : (sequence : List ℕ) → command_of Ansi sequence 27 ≡ None
unfolding command_of
no_command sequence = ap (λ (a : Action). command_by a Ansi sequence 27) (begins (context_of Ansi sequence))

begun_anew : (sequence : List ℕ) → pending_after Ansi sequence 27 ≡ 27 ∷ []
unfolding pending_after
begun_anew sequence = ap (λ (a : Action). pending_by a Ansi sequence 27) (begins (context_of Ansi sequence))

never_upper : (b : Bool) → (b && false) ≡ false
never_upper true = refl
never_upper false = refl

-- where no character is pending
record Escapes (o : Outcome) : Type 0 where
  console : Console
  is : o ≡ outcome console (27 ∷ []) [] []
  title : console.title ≡ false

escape_read : (s : Console) (sequence : List ℕ) → Escapes (read s sequence 27)
escape_read s sequence = elim (cases_Bool s.title) [
  | inl title ↦ record {
    console = title_set false s;
    is = sym (titled s sequence 27 title) ∙ ap (λ (p : List ℕ). outcome (title_set false s) p [] []) (begun_anew sequence);
    title = refl;
  }
  | inr none ↦ record {
    console = forgotten_if (ends_last sequence 27) s;
    is = sym (other s sequence 27 none (never_upper (is_ground sequence)))
        ∙ ap₂ (λ (c : Option Command) (p : List ℕ). outcome (forgotten_if (ends_last sequence 27) (effect_of effect c s)) p [] (reply_of reply c s)) (no_command sequence) (begun_anew sequence);
    title = same_title (ends_last sequence 27) s ∙ none;
  }
]

-- no character goes on with it
stops : Row → Bool
stops row = not (is_within row.low row.high 27)

either_stops : (b : Bool) (one two : Row) → stops one ≡ true → stops two ≡ true → stops (if b then one else two) ≡ true
either_stops true one two first second = first
either_stops false one two first second = second

rows_stop : (rows : List Row) (byte : ℕ) → list_all stops rows ≡ true → stops (row_in rows byte) ≡ true
unfolding stops
rows_stop [] byte all = refl
rows_stop (row ∷ rest) byte all =
    let parts = and_parts (stops row) (list_all stops rest) all in
    either_stops (is_within row.first row.last byte) row (row_in rest byte) parts.0 (rows_stop rest byte parts.1)

unless : (b : Bool) → not b ≡ true → b ≡ false
unless true is = absurd cc
unless false is = refl

row_stops : (byte : ℕ) → is_within (row_of byte).low (row_of byte).high 27 ≡ false
unfolding row_of stops
row_stops byte = unless (is_within (row_of byte).low (row_of byte).high 27) (rows_stop table byte refl)

broken_by : (first : ℕ) (rest : List ℕ) → reading (first ∷ rest) 27 ≡ Broken
broken_by first [] =
    ap (λ (b : Bool). if b then (if is_whole_character (first ∷ 27 ∷ []) then Character (code_point (first ∷ 27 ∷ [])) else More) else Broken) (row_stops first)
broken_by first (second ∷ rest) = refl

escape_comes : (s : Console) (sequence character : List ℕ) → Escapes (outcome_of s sequence character 27)
unfolding outcome_of
escape_comes s sequence [] = escape_read s sequence
escape_comes s sequence (first ∷ rest) =
    let after = escape_read (put replacement s) sequence in
    record {
      console = after.console;
      is = ap (λ (r : Reading). gone_on r s sequence (first ∷ rest) 27) (broken_by first rest) ∙ after.is;
      title = after.title;
    }

-- ---- RIS

resets : (t : Console) (reports : List ℕ) → t.title ≡ false
    → step (behind t (27 ∷ []) reports) 99 ≡ on_ground (reset_console t.picture.columns t.picture.lines) (reports ++ [])
unfolding command_of pending_after context_of is_whole meaning effect reply
resets t reports title = stepped_by t (27 ∷ []) reports 99 title refl

pub begins_anew : (x : Term) → play x anew_text ≡ on_ground (reset_console x.console.picture.columns x.console.picture.lines) x.reports
unfolding play
begins_anew x =
    let first = escape_comes x.console x.sequence x.character in
    let moved : step x 27 ≡ behind first.console (27 ∷ []) x.reports =
    ap (λ (o : Outcome). stepped x.reports o) first.is ∙ ap (behind first.console (27 ∷ [])) (append-nil x.reports) in
    let size = size_stays x (27 ∷ []) in
    let columns : first.console.picture.columns ≡ x.console.picture.columns = ap (λ (y : Term). y.console.picture.columns) (sym moved) ∙ size.columns in
    let lines : first.console.picture.lines ≡ x.console.picture.lines = ap (λ (y : Term). y.console.picture.lines) (sym moved) ∙ size.lines in
    ap (λ (y : Term). step y 99) moved ∙ resets first.console x.reports first.title
    ∙ ap (on_ground (reset_console first.console.picture.columns first.console.picture.lines)) (append-nil x.reports)
    ∙ ap₂ (λ (c l : ℕ). on_ground (reset_console c l) x.reports) columns lines
