-- The text of a control sequence by its marks, and what bytes do to a tally.
use Rattle.std.proofs.Common.{◌≡◌, ℕ, ◌+◌, ◌<◌, ◌==◌, ◌&&◌, ◌||◌, Bool, true, false, not, nat_eq, nat_le, List, [], ◌∷◌, ◌++◌, take, drop, length, get_or, refl, sym, ap, ap₂, ◌∙◌, subst, inl, inr, arith}
use Rattle.std.specs.Prelude.{Option, Some, None, OnOk, fold, if◌then◌else◌}
use Rattle.std.specs.List.{list_all, list_any}
use Rattle.std.specs.Cmp.Lexicographic.{pointwise}
use Rattle.std.proofs.lemmas.Bool.{cases_Bool, and_parts, false≢true}
use Rattle.std.proofs.lemmas.Bool.Decides.{nat_tests}
use Rattle.std.proofs.Math.Seq.{take-add}
use Rattle.std.proofs.lemmas.List.{take_more, append-nil}
use Rattle.std.proofs.lemmas.List.Concat.{flat_map-append}
use Rattle.std.proofs.lemmas.List.Sums.{fold-append}
use Rattle.vt_parser.specs.declared.commands.Mode.TheVariants.{Ansi}
use Rattle.vt_parser.specs.declared.states.Formless.{Formless}
use Rattle.vt_parser.specs.declared.states.Formless.TheVariants as formless
use Rattle.vt_parser.specs.declared.syntax.Action.{Action}
use Rattle.vt_parser.specs.declared.syntax.Action.TheVariants.{Ignore, Execute, Print, Mark, Begin, Join, End, Cancel}
use Rattle.vt_parser.specs.declared.syntax.Context.TheVariants.{Ground, Sequence, Text}
use Rattle.vt_parser.specs.Syntax.{escape, is_graphic, is_within, SyntaxRow, table, actions_in, action_of}
use Rattle.vt_parser.specs.Forms.{front, final, is_whole, is_string_begun, is_control_sequence_begun, is_control_sequence_text}
use Rattle.vt_parser.specs.Formless.{formless, formless_of, control_sequence_formless, escape_formless}
use Rattle.vt_parser.specs.Step.{context_of, pending_by, pending_after}
use Rattle.tape_check.specs.declared.quiet.Marks.{Marks}
use Rattle.tape_check.specs.Quiet.{is_quiet_text, loud_form}
use Rattle.tape_check.specs.Tallying.{first_marks, marked, marks_of, marks_after, Knows, is_quiet_by, loud_by, is_idle, IsAt}
use Rattle.tape_check.specs.declared.tally.Reader.{Reader}
use Rattle.tape_check.specs.Unplayed.{command_names, formless_names}
use Rattle.tape_check.specs.Counting.{entries_of}
use Rattle.tape_check.specs.declared.unplayed.Counts.{Counts}
use Rattle.std.specs.declared.result.Result.{Result}
use Rattle.std.specs.declared.result.Result.TheVariants.{Ok, Err}
use Rattle.std.specs.declared.alloc.AllocError.{AllocError}
use Rattle.tape_check.specs.Scan.{counted}
use Rattle.tape_check.specs.Tally.{Tally, any_today, forms_at, names_at, title_by, syntax_read, title_read, upper_read, read, gone_on, tallied}
use Rattle.tape_core.specs.declared.chunk.Chunk.{Chunk}
use Rattle.tape_core.specs.Tape.{body}
use Rattle.characters.specs.Utf8.{reading}
use Rattle.vt_parser.specs.declared.commands.Command.{Command}
use Rattle.xterm_term.specs.Term.{is_ground}
use Rattle.vt_parser.proofs.LawLemmas.{graphic_is_shown}

-- ---- what marks tell of a text

colon_of : (m : Marks) (text : List ℕ) → (fold marked m text).has_colon ≡ (m.has_colon || list_any (λ byte. byte == 58) text)
colon_of m [] = or_false m.has_colon
  where
    or_false : (b : Bool) → b ≡ (b || false)
    or_false true = refl
    or_false false = refl
colon_of m (byte ∷ rest) = colon_of (marked m byte) rest ∙ or_assoc m.has_colon (byte == 58) (list_any (λ b. b == 58) rest)
  where
    or_assoc : (a b c : Bool) → ((a || b) || c) ≡ (a || (b || c))
    or_assoc true b c = refl
    or_assoc false b c = refl

-- behind a second byte it isn't `!`
bang_lost : (m : Marks) (text : List ℕ) → m.is_empty ≡ false → m.is_bang ≡ false → (fold marked m text).is_bang ≡ false
bang_lost m [] empty bang = bang
bang_lost m (byte ∷ rest) empty bang = bang_lost (marked m byte) rest refl (ap (λ (b : Bool). b && (byte == 33)) empty)

bang_of : (text : List ℕ) → (marks_of text).is_bang ≡ pointwise nat_eq text (33 ∷ [])
bang_of [] = refl
bang_of (byte ∷ []) = and_true (byte == 33)
  where
    and_true : (b : Bool) → b ≡ (b && true)
    and_true true = refl
    and_true false = refl
bang_of (byte ∷ next ∷ rest) = bang_lost (marked (marked first_marks byte) next) rest refl refl ∙ and_false (byte == 33)
  where
    and_false : (b : Bool) → false ≡ (b && false)
    and_false true = refl
    and_false false = refl

pub quiet_of : (text : List ℕ) (last : ℕ) → is_quiet_by (marks_of text) last ≡ is_quiet_text text last
quiet_of text last =
    ap₂ (λ (b c : Bool). ((last == 112) && not b) || ((last == 109) && not c)
    || (last == 99) || (last == 110) || (last == 113) || (last == 116) || (last == 117)) (bang_of text) (colon_of first_marks text)

-- ---- the marks are those of what is pending

joins : (byte : ℕ) → is_within 32 126 byte ≡ true → action_of Sequence byte ≡ Join
joins byte is = grind (arith, nat_tests)

abbrev is_join : Action → Bool
is_join Join = true
is_join _ = false

joins_here : (joins : Bool) (first last byte : ℕ) → (not joins || (first == 32 && last == 126)) ≡ true → is_within first last byte ≡ true
    → is_within 32 126 byte ≡ false → joins ≡ false
joins_here false first last byte allowed within out = refl
joins_here true first last byte allowed within out = grind (arith, nat_tests)

abbrev joins_well : SyntaxRow → Bool
joins_well row = not (is_join row.actions.in_sequence) || (row.first == 32 && row.last == 126)

joins_by : (b : Bool) (row : SyntaxRow) (rest : List SyntaxRow) (byte : ℕ) → is_within row.first row.last byte ≡ b → joins_well row ≡ true
    → is_within 32 126 byte ≡ false → is_join (actions_in rest byte).in_sequence ≡ false
    → is_join (if b then row.actions else actions_in rest byte).in_sequence ≡ false
joins_by true row rest byte is well out later = joins_here (is_join row.actions.in_sequence) row.first row.last byte well is out
joins_by false row rest byte is well out later = later

joins_in : (rows : List SyntaxRow) (byte : ℕ) → list_all joins_well rows ≡ true → is_within 32 126 byte ≡ false
    → is_join (actions_in rows byte).in_sequence ≡ false
joins_in [] byte all out = refl
joins_in (row ∷ rest) byte all out =
    let parts = and_parts (joins_well row) (list_all joins_well rest) all in
    joins_by (is_within row.first row.last byte) row rest byte refl parts.0 out (joins_in rest byte parts.1 out)

joins_not : (byte : ℕ) → is_within 32 126 byte ≡ false → is_join (action_of Sequence byte) ≡ false
joins_not byte out = joins_in table byte refl out

marks_stay : (m : Marks) (byte : ℕ) → is_within 32 126 byte ≡ false → marks_after m byte ≡ m
marks_stay m byte is = grind (arith, nat_tests)

-- what is kept, dropped or begun by another action
knows_kept : (action : Action) (m : Marks) (pending : List ℕ) (byte : ℕ) → is_join action ≡ false → Knows m pending
    → Knows m (pending_by action Ansi pending byte)
knows_kept Ignore m pending byte is knows = knows
knows_kept Execute m pending byte is knows = knows
knows_kept Print m pending byte is knows = knows
knows_kept Mark m pending byte is knows = knows
knows_kept Begin m pending byte is knows = λ begun. absurd (false≢true begun)
knows_kept Join m pending byte is knows = absurd (false≢true (sym is))
knows_kept End m pending byte is knows = λ begun. absurd (false≢true begun)
knows_kept Cancel m pending byte is knows = λ begun. absurd (false≢true begun)

not_true : (b : Bool) → not b ≡ true → b ≡ false
not_true true is = absurd (false≢true is)
not_true false is = refl

abbrev never_well : SyntaxRow → Bool
never_well row = not (is_join row.actions.in_string)

never_by : (b : Bool) (row : SyntaxRow) (rest : List SyntaxRow) (byte : ℕ) → never_well row ≡ true
    → is_join (actions_in rest byte).in_string ≡ false → is_join (if b then row.actions else actions_in rest byte).in_string ≡ false
never_by true row rest byte well later = not_true (is_join row.actions.in_string) well
never_by false row rest byte well later = later

never_in : (rows : List SyntaxRow) (byte : ℕ) → list_all never_well rows ≡ true → is_join (actions_in rows byte).in_string ≡ false
never_in [] byte all = refl
never_in (row ∷ rest) byte all =
    let parts = and_parts (never_well row) (list_all never_well rest) all in
    never_by (is_within row.first row.last byte) row rest byte parts.0 (never_in rest byte parts.1)

never_joins : (byte : ℕ) → is_join (action_of Text byte) ≡ false
never_joins byte = never_in table byte refl

-- a string is no control sequence
apart : (bytes : List ℕ) → is_string_begun bytes ≡ true → is_control_sequence_begun bytes ≡ false
apart [] is = refl
apart (byte ∷ []) is = refl
apart (byte ∷ next ∷ []) is = grind (arith, nat_tests)
apart (byte ∷ next ∷ third ∷ rest) is = absurd (false≢true is)

-- from ground no control sequence is begun by one byte
ground_begins : (action : Action) (byte : ℕ) → is_control_sequence_begun (pending_by action Ansi [] byte) ≡ false
ground_begins Ignore byte = refl
ground_begins Execute byte = refl
ground_begins Print byte = refl
ground_begins Mark byte = refl
ground_begins Begin byte = refl
ground_begins Join byte = one (is_whole Ansi (byte ∷ []))
  where
    one : (b : Bool) → is_control_sequence_begun (if b then [] else byte ∷ []) ≡ false
    one true = refl
    one false = refl
ground_begins End byte = refl
ground_begins Cancel byte = refl

all_snoc : (p : ℕ → Bool) (xs : List ℕ) (x : ℕ) → list_all p (xs ++ x ∷ []) ≡ true → (list_all p xs ≡ true) × (p x ≡ true)
all_snoc p [] x is = (refl, (and_parts (p x) true is).0)
all_snoc p (y ∷ xs) x is =
    let parts = and_parts (p y) (list_all p (xs ++ x ∷ [])) is in
    let rest = all_snoc p xs x parts.1 in
    (ap₂ (λ (a b : Bool). a && b) parts.0 rest.0, rest.1)

goes_on : (m : Marks) (byte : ℕ) → is_control_sequence_text byte ≡ true → marks_after m byte ≡ marked m byte
goes_on m byte is = grind (arith, nat_tests)

begins_text : (m : Marks) (first byte : ℕ) → is_control_sequence_begun (first ∷ byte ∷ []) ≡ true → marks_after m byte ≡ first_marks
begins_text m first byte is = grind (arith, nat_tests)

knows_joined : (m : Marks) (first : ℕ) (rest : List ℕ) (byte : ℕ) → Knows m (first ∷ rest)
    → Knows (marks_after m byte) ((first ∷ rest) ++ byte ∷ [])
knows_joined m first [] byte knows = λ begun. begins_text m first byte begun
knows_joined m first (next ∷ rest) byte knows = λ begun.
    let parts = and_parts (first == escape && next == 91) (list_all is_control_sequence_text (rest ++ byte ∷ [])) begun in
    let texts = all_snoc is_control_sequence_text rest byte parts.1 in
    let was : is_control_sequence_begun (first ∷ next ∷ rest) ≡ true = ap₂ (λ (a b : Bool). a && b) parts.0 texts.0 in
    goes_on m byte texts.1 ∙ ap (λ (k : Marks). marked k byte) (knows was) ∙ sym (fold-append marked first_marks rest (byte ∷ []))

knows_whole : (whole : Bool) (m : Marks) (bytes : List ℕ) → Knows m bytes → Knows m (if whole then [] else bytes)
knows_whole true m bytes knows = λ begun. absurd (false≢true begun)
knows_whole false m bytes knows = knows

knows_sequence : (m : Marks) (first : ℕ) (rest : List ℕ) (byte : ℕ) → Knows m (first ∷ rest)
    → Knows (marks_after m byte) (pending_by (action_of Sequence byte) Ansi (first ∷ rest) byte)
knows_sequence m first rest byte knows =
    elim (cases_Bool (is_within 32 126 byte)) [
      | inl is ↦
          subst (λ (a : Action). Knows (marks_after m byte) (pending_by a Ansi (first ∷ rest) byte)) (sym (joins byte is))
          (knows_whole (is_whole Ansi ((first ∷ rest) ++ byte ∷ [])) (marks_after m byte) ((first ∷ rest) ++ byte ∷ [])
          (knows_joined m first rest byte knows))
      | inr other ↦
          subst (λ (k : Marks). Knows k (pending_by (action_of Sequence byte) Ansi (first ∷ rest) byte)) (sym (marks_stay m byte other))
          (knows_kept (action_of Sequence byte) m (first ∷ rest) byte (joins_not byte other) knows)
    ]

knows_by : (string : Bool) (m : Marks) (first : ℕ) (rest : List ℕ) (byte : ℕ) → is_string_begun (first ∷ rest) ≡ string
    → Knows m (first ∷ rest)
    → Knows (marks_after m byte) (pending_by (action_of (if string then Text else Sequence) byte) Ansi (first ∷ rest) byte)
knows_by true m first rest byte is knows =
    knows_kept (action_of Text byte) (marks_after m byte) (first ∷ rest) byte (never_joins byte)
    (λ begun. absurd (false≢true (sym (apart (first ∷ rest) is) ∙ begun)))
knows_by false m first rest byte is knows = knows_sequence m first rest byte knows

pub knows_after : (m : Marks) (pending : List ℕ) (byte : ℕ) → Knows m pending → Knows (marks_after m byte) (pending_after Ansi pending byte)
unfolding pending_after context_of
knows_after m [] byte knows = λ begun. absurd (false≢true (sym (ground_begins (action_of Ground byte) byte) ∙ begun))
knows_after m (first ∷ rest) byte knows = knows_by (is_string_begun (first ∷ rest)) m first rest byte refl knows

-- ---- sequences without a command

front_joined : (bytes : List ℕ) (byte : ℕ) → front (bytes ++ byte ∷ []) ≡ bytes
front_joined [] byte = refl
front_joined (first ∷ []) byte = refl
front_joined (first ∷ next ∷ rest) byte = ap (λ (l : List ℕ). first ∷ l) (front_joined (next ∷ rest) byte)

form_begun : (whole begun : Bool) (text tail : List ℕ) (final last : ℕ)
    → (if whole then (if begun then control_sequence_formless text final else escape_formless tail final) else None)
    ≡ Some (formless.ControlSequence last) → begun ≡ true
form_begun true true text tail final last is = refl
form_begun true false text [] final last is = absurd cc
form_begun true false text (inter ∷ []) final last is = absurd cc
form_begun true false text (inter ∷ next ∷ rest) final last is = absurd cc
form_begun false begun text tail final last is = absurd cc

begun_for : (sequence : List ℕ) (byte last : ℕ) → formless_of Ansi sequence byte ≡ Some (formless.ControlSequence last)
    → is_control_sequence_begun sequence ≡ true
unfolding formless_of formless
begun_for sequence byte last is =
    let bytes = sequence ++ byte ∷ [] in
    ap is_control_sequence_begun (sym (front_joined sequence byte))
    ∙ form_begun (is_whole Ansi bytes) (is_control_sequence_begun (front bytes)) (drop 2 (front bytes)) (drop 1 (front bytes)) (final bytes) last is

loud_same : (m : Marks) (text : List ℕ) (form : Option Formless)
    → ((last : ℕ) → form ≡ Some (formless.ControlSequence last) → m ≡ marks_of text) → loud_by m form ≡ loud_form text form
loud_same m text None knows = refl
loud_same m text (Some (formless.Escape last)) knows = refl
loud_same m text (Some (formless.ControlSequence last)) knows =
    ap (λ (q : Bool). if q then None else Some (formless.ControlSequence last))
    (ap (λ (k : Marks). is_quiet_by k last) (knows last refl) ∙ quiet_of text last)

pub loud_told : (m : Marks) (sequence : List ℕ) (byte : ℕ) → Knows m sequence
    → loud_by m (formless_of Ansi sequence byte) ≡ loud_form (drop 2 sequence) (formless_of Ansi sequence byte)
loud_told m sequence byte knows =
    loud_same m (drop 2 sequence) (formless_of Ansi sequence byte) (λ last is. knows (begun_for sequence byte last is))

-- ---- what a byte is read as

pub read_titled : (t : Tally) (byte : ℕ) → t.title ≡ true → read t byte ≡ title_read t byte
unfolding read
read_titled t byte is =
    ap (λ (b : Bool). if b then title_read t byte
    else (if is_ground t.sequence && nat_le 128 byte then upper_read t byte else syntax_read t byte)) is

untitled : (t : Tally) (byte : ℕ) → t.title ≡ false
    → read t byte ≡ (if is_ground t.sequence && nat_le 128 byte then upper_read t byte else syntax_read t byte)
unfolding read
untitled t byte is =
    ap (λ (b : Bool). if b then title_read t byte
    else (if is_ground t.sequence && nat_le 128 byte then upper_read t byte else syntax_read t byte)) is

pub read_as_upper : (t : Tally) (byte : ℕ) → t.title ≡ false → (is_ground t.sequence && nat_le 128 byte) ≡ true
    → read t byte ≡ upper_read t byte
read_as_upper t byte is upper =
    untitled t byte is ∙ ap (λ (b : Bool). if b then upper_read t byte else syntax_read t byte) upper

pub read_as_syntax : (t : Tally) (byte : ℕ) → t.title ≡ false → (is_ground t.sequence && nat_le 128 byte) ≡ false
    → read t byte ≡ syntax_read t byte
read_as_syntax t byte is other =
    untitled t byte is ∙ ap (λ (b : Bool). if b then upper_read t byte else syntax_read t byte) other

some_pending : (bytes : List ℕ) → 0 < length bytes → is_ground bytes ≡ false
some_pending [] some = absurd (omega arith)
some_pending (byte ∷ rest) some = refl

pub tallied_on : (t : Tally) (byte : ℕ) → 0 < length t.character → tallied t byte ≡ gone_on (reading t.character byte) t byte
unfolding tallied
tallied_on t byte some =
    ap (λ (b : Bool). if b then read t byte else gone_on (reading t.character byte) t byte) (some_pending t.character some)

pub tallied_anew : (t : Tally) (byte : ℕ) → t.character ≡ [] → tallied t byte ≡ read t byte
unfolding tallied
tallied_anew t byte none =
    ap (λ (b : Bool). if b then read t byte else gone_on (reading t.character byte) t byte) (ap is_ground none)

-- where neither a title nor a character is read
pub syntax_tallied : (t : Tally) (byte : ℕ) → t.title ≡ false → t.character ≡ [] → (is_ground t.sequence && nat_le 128 byte) ≡ false
    → tallied t byte ≡ syntax_read t byte
syntax_tallied t byte title character other = tallied_anew t byte character ∙ read_as_syntax t byte title other

-- ---- graphic characters where nothing is pending

-- a tally that reads no title, with nothing pending
abbrev pub idle : List (List ℕ × ℕ) → ℕ → Tally
idle entries parts = record { title = false; sequence = []; character = []; entries = entries; parts = parts }

pub low : (byte : ℕ) → is_graphic byte ≡ true → nat_le 128 byte ≡ false
low byte graphic = grind (arith, nat_tests)

-- no byte alone is a sequence
pub no_form : (byte : ℕ) → formless_of Ansi [] byte ≡ None
unfolding formless_of is_whole
no_form byte = refl

graphic_tallied : (entries : List (List ℕ × ℕ)) (parts byte : ℕ) → is_graphic byte ≡ true → tallied (idle entries parts) byte ≡ idle entries parts
graphic_tallied entries parts byte graphic =
    let shown = graphic_is_shown Ansi byte graphic in
    let names : names_at [] byte ≡ []
    = ap₂ (λ (form : Option Formless) (command : Option Command). formless_names (loud_form [] form) ++ command_names any_today command)
    (no_form byte) shown.0 in
    syntax_tallied (idle entries parts) byte refl refl (low byte graphic)
    ∙ ap₂ (λ (command : Option Command) (sequence : List ℕ). record (idle (fold counted entries (names_at [] byte)) parts) {
      title = title_by command false;
      sequence = sequence;
    }) shown.0 shown.1
    ∙ ap (λ (l : List (List ℕ)). idle (fold counted entries l) parts) names

run_tallied : (entries : List (List ℕ × ℕ)) (parts : ℕ) (bytes : List ℕ) → list_all is_graphic bytes ≡ true
    → fold tallied (idle entries parts) bytes ≡ idle entries parts
run_tallied entries parts [] graphic = refl
run_tallied entries parts (byte ∷ rest) graphic =
    let each = and_parts (is_graphic byte) (list_all is_graphic rest) graphic in
    ap (λ (t : Tally). fold tallied t rest) (graphic_tallied entries parts byte each.0) ∙ run_tallied entries parts rest each.1

-- they count nothing
pub idle_stays : (t : Tally) (bytes : List ℕ) → is_idle t ≡ true → list_all is_graphic bytes ≡ true → fold tallied t bytes ≡ t
idle_stays t bytes is graphic = by t.title t.sequence t.character is
  where
    by : (title : Bool) (sequence character : List ℕ) → (not title && is_ground sequence && is_ground character) ≡ true
        → fold tallied (record { title = title; sequence = sequence; character = character; entries = t.entries; parts = t.parts }) bytes
        ≡ record { title = title; sequence = sequence; character = character; entries = t.entries; parts = t.parts }
    by false [] [] is = run_tallied t.entries t.parts bytes graphic
    by false [] (begun ∷ rest) is = absurd (false≢true is)
    by false (begun ∷ rest) character is = absurd (false≢true is)
    by true sequence character is = absurd (false≢true is)

-- one byte more
pub more_tallied : (t : Tally) (bytes : List ℕ) (at : ℕ) → at < length bytes
    → fold tallied t (take (at + 1) bytes) ≡ tallied (fold tallied t (take at bytes)) (get_or bytes at 0)
more_tallied t bytes at lt = ap (fold tallied t) (take_more bytes at 0 lt) ∙ fold-append tallied t (take at bytes) (get_or bytes at 0 ∷ [])

-- ---- chunks

pub chunk_more : (t : Tally) (chunks : List Chunk) (i : ℕ) (d : Chunk) → i < length chunks
    → fold tallied t (body (take (i + 1) chunks)) ≡ fold tallied (fold tallied t (body (take i chunks))) (get_or chunks i d).bytes
chunk_more t chunks i d within =
    ap (λ (l : List Chunk). fold tallied t (body l)) (take_more chunks i d within)
    ∙ ap (fold tallied t) (flat_map-append (λ (k : Chunk). k.bytes) (take i chunks) (get_or chunks i d ∷ [])
    ∙ ap (λ (l : List ℕ). body (take i chunks) ++ l) (append-nil (get_or chunks i d).bytes))
    ∙ fold-append tallied t (body (take i chunks)) (get_or chunks i d).bytes

-- ---- a sequence without a command is counted

pub form_counted : (result : Result (Unit {0}) AllocError) (reader : Reader) (counts : Counts) (t : Tally) (byte : ℕ) (form : Option Formless)
    → IsAt reader t → form ≡ loud_form (drop 2 t.sequence) (formless_of Ansi t.sequence byte)
    → OnOk result (entries_of counts ≡ fold counted (entries_of reader.counts) (formless_names form))
    → OnOk result (IsAt (record reader { counts = counts }) (record t { entries = fold counted t.entries (forms_at t.sequence byte) }))
form_counted (Err refused) reader counts t byte form at is told = told
form_counted (Ok done) reader counts t byte form at is told = record {
  title = at.title;
  state = at.state;
  character = at.character;
  marks = at.marks;
  entries = ap (λ (e : List (List ℕ × ℕ)). fold counted e (forms_at t.sequence byte)) at.entries
      ∙ ap (λ (f : Option Formless). fold counted (entries_of reader.counts) (formless_names f)) (sym is) ∙ sym told;
  parts = at.parts;
}

-- ---- bytes taken some at a time

-- what was taken of bytes so far, and the rest of them
pub record Fed (old new : Reader) (bytes rest : List ℕ) : Type 0 where
  pub at : ℕ
  pub left : rest ≡ drop at bytes
  pub stands : (t : Tally) → IsAt old t → IsAt new (fold tallied t (take at bytes))

pub fed_on : (reader : Reader) (t : Tally) (bytes rest : List ℕ) (at n : ℕ) → rest ≡ drop at bytes
    → IsAt reader (fold tallied (fold tallied t (take at bytes)) (take n rest)) → IsAt reader (fold tallied t (take (at + n) bytes))
fed_on reader t bytes rest at n left is =
    subst (IsAt reader)
    (ap (λ (l : List ℕ). fold tallied (fold tallied t (take at bytes)) (take n l)) left
    ∙ sym (fold-append tallied t (take at bytes) (take n (drop at bytes)))
    ∙ ap (fold tallied t) (sym (take-add at n bytes))) is
