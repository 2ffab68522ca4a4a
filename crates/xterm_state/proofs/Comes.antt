-- What every term is that comes of a reset one.
use Rattle.std.proofs.Common.{◌≡◌, ℕ, ◌≤◌, Bool, true, false, List, [], ◌∷◌, ◌++◌, length, drop, encode_utf8, refl, sym, ap, subst, inl, inr, ◌∙◌, arith}
use Rattle.std.specs.Prelude.{Option, Some, None, IfSome, if◌then◌else◌, ◌==◌, ◌&&◌, ◌||◌, nat_le, not}
use Rattle.std.specs.List.{list_all}
use Rattle.std.proofs.Math.Dec.{lit≤}
use Rattle.std.proofs.lemmas.Bool.{and_parts, cases_Bool, false≢true}
use Rattle.std.proofs.lemmas.Bool.Decides.{nat_tests}
use Rattle.characters.specs.declared.utf8.Reading.{Reading}
use Rattle.characters.specs.declared.utf8.Reading.TheVariants.{Character, More, Broken}
use Rattle.characters.specs.Utf8.{IsFront, begins, reading, replacement}
use Rattle.vt_parser.specs.declared.commands.Mode.TheVariants.{Ansi}
use Rattle.vt_parser.specs.declared.commands.Command.{Command}
use Rattle.vt_parser.specs.declared.commands.Command.TheVariants.{Show, Error, Control as ControlOf, Esc, Csi, Vt52, Vt52Address}
use Rattle.vt_parser.specs.declared.syntax.Context.{Context}
use Rattle.vt_parser.specs.declared.syntax.Context.TheVariants as context
use Rattle.vt_parser.specs.declared.syntax.Action.{Action}
use Rattle.vt_parser.specs.declared.syntax.Action.TheVariants.{Ignore, Execute, Print, Mark, Begin, Join, End, Cancel}
use Rattle.vt_parser.specs.Forms.{after_mark, is_control_sequence_begun, is_private, is_string_begun, is_well_formed, is_whole, control_sequence_meaning, escape_meaning, front, final, held, meaning, params}
use Rattle.vt_parser.specs.Law.{IsProper, fewest_of, is_sequence}
use Rattle.vt_parser.specs.Step.{context_of, command_of, command_by, pending_after}
use Rattle.vt_parser.specs.Syntax.{Actions, SyntaxRow, action_of, actions_in, actions_of, escape, is_within, table}
use Rattle.vt_parser.proofs.LawLemmas.{finished_leaves_nothing, pending_pays}
use Rattle.xterm_term.specs.Console.{Console, IsSafe}
use Rattle.xterm_term.specs.Controls.{Control, Bs, Ht, Lf, Cr, So, Si, controls, control_effect}
use Rattle.xterm_term.specs.Effect.{effect}
use Rattle.xterm_term.specs.Law.{StaysSafe}
use Rattle.xterm_term.specs.Puts.{put, character_for}
use Rattle.xterm_term.specs.Rows.{named, effect_of}
use Rattle.xterm_term.specs.Sets.{set_in_use}
use Rattle.xterm_term.specs.Term.{Term, Outcome, ends_last, ends_title, forgotten_if, gone_on, is_control, is_ground, outcome_at, outcome_of, play, read, reset_term, step, title_read, title_set}
use Rattle.xterm_term.proofs.Idle.{character_brings}
use Rattle.xterm_term.proofs.Runs.{on_ground, put_others}
use Rattle.xterm_escaped.proofs.Cells.{LawsBelow}
use Rattle.xterm_escaped.proofs.FittingTerms.{Fit, FitLaws, fit_outcome, fit_put, fit_reset}
use Rattle.xterm_escaped.proofs.Typed.{read_upper, spelt}
use Rattle.xterm_state.proofs.Again.{IsGiven}
use Rattle.xterm_state.proofs.Last.{LastStands}
use Rattle.xterm_state.proofs.Reached.{Reached, bounded, reached_command, reached_forgotten, reached_put, reached_reset, reached_titled}
use Rattle.xterm_state.proofs.Standing.{Keeps, keeps_put, set_given}

-- ---- commands behind which there is no last character

is_control_command : Option Command → Bool
is_control_command (Some (ControlOf byte)) = true
is_control_command _ = false

either_other : (b : Bool) (one two : Option Command) → is_control_command one ≡ false → is_control_command two ≡ false → is_control_command (if b then one else two) ≡ false
either_other true one two first second = first
either_other false one two first second = second

escape_other : (inters : List ℕ) (last : ℕ) → is_control_command (escape_meaning inters last) ≡ false
unfolding is_control_command
escape_other [] last = refl
escape_other (inter ∷ []) last = refl
escape_other (inter ∷ next ∷ rest) last = refl

control_other : (text : List ℕ) (last : ℕ) → is_control_command (control_sequence_meaning text last) ≡ false
unfolding is_control_command
control_other text last = either_other (is_well_formed text) (Some (Csi (is_private text) (held (params (after_mark text))) last)) None refl refl

meaning_other : (bytes : List ℕ) → is_control_command (meaning Ansi bytes) ≡ false
unfolding meaning
meaning_other bytes =
    let text = drop 2 (front bytes) in
    let inters = drop 1 (front bytes) in
    let last = final bytes in
    either_other (is_control_sequence_begun (front bytes)) (control_sequence_meaning text last) (escape_meaning inters last) (control_other text last) (escape_other inters last)

-- a control is executed
executed : (a : Action) (p : List ℕ) (byte : ℕ) → is_control_command (command_by a Ansi p byte) ≡ true → a ≡ Execute
unfolding is_control_command
executed Ignore p byte is = absurd (false≢true is)
executed Execute p byte is = refl
executed Print p byte is = absurd (false≢true is)
executed Mark p byte is = absurd (false≢true is)
executed Begin p byte is = absurd (false≢true is)
executed Join p byte is =
    absurd (false≢true (sym (either_other (is_whole Ansi (p ++ byte ∷ [])) (meaning Ansi (p ++ byte ∷ [])) None (meaning_other (p ++ byte ∷ [])) refl) ∙ is))
executed End p byte is = absurd (false≢true is)
executed Cancel p byte is = absurd (false≢true is)

executes : Action → Bool
executes Execute = true
executes _ = false

-- a row of the table has what only control characters have, or the next one
controls_in : (get : Actions → Action) (byte : ℕ) (b : Bool) (one two : Actions) → (b ≡ true → executes (get one) ≡ true → is_control byte ≡ true)
    → (executes (get two) ≡ true → is_control byte ≡ true) → executes (get (if b then one else two)) ≡ true → is_control byte ≡ true
controls_in get byte true one two first second is = first refl is
controls_in get byte false one two first second is = second is

low_control : (low high byte : ℕ) → high ≤ 26 → is_within low high byte ≡ true → is_control byte ≡ true
low_control low high byte few is = grind (arith, nat_tests)

high_control : (low high byte : ℕ) → 28 ≤ low → high ≤ 31 → is_within low high byte ≡ true → is_control byte ≡ true
high_control low high byte some few is = grind (arith, nat_tests)

executes_in : (get : Actions → Action) (byte : ℕ)
    → executes (get (record { on_ground = Ignore; in_sequence = Ignore; in_string = End })) ≡ false
    → executes (get (record { on_ground = Ignore; in_sequence = Cancel; in_string = Cancel })) ≡ false
    → executes (get (record { on_ground = Begin; in_sequence = Begin; in_string = Begin })) ≡ false
    → executes (get (record { on_ground = Print; in_sequence = Join; in_string = Ignore })) ≡ false
    → executes (get (record { on_ground = Ignore; in_sequence = Ignore; in_string = Ignore })) ≡ false
    → executes (get (record { on_ground = Mark; in_sequence = Ignore; in_string = Ignore })) ≡ false
    → executes (get (actions_of byte)) ≡ true → is_control byte ≡ true
executes_in get byte bell cancel begin graphic delete upper =
    controls_in get byte _ _ _ (λ in_ is. low_control 0 6 byte (lit≤ tt) in_)
    (controls_in get byte _ _ _ (λ in_ is. absurd (false≢true (sym bell ∙ is)))
    (controls_in get byte _ _ _ (λ in_ is. low_control 8 23 byte (lit≤ tt) in_)
    (controls_in get byte _ _ _ (λ in_ is. absurd (false≢true (sym cancel ∙ is)))
    (controls_in get byte _ _ _ (λ in_ is. low_control 25 25 byte (lit≤ tt) in_)
    (controls_in get byte _ _ _ (λ in_ is. absurd (false≢true (sym cancel ∙ is)))
    (controls_in get byte _ _ _ (λ in_ is. absurd (false≢true (sym begin ∙ is)))
    (controls_in get byte _ _ _ (λ in_ is. high_control 28 31 byte (lit≤ tt) (lit≤ tt) in_)
    (controls_in get byte _ _ _ (λ in_ is. absurd (false≢true (sym graphic ∙ is)))
    (controls_in get byte _ _ _ (λ in_ is. absurd (false≢true (sym delete ∙ is)))
    (controls_in get byte _ _ _ (λ in_ is. absurd (false≢true (sym upper ∙ is)))
    (λ is. absurd (false≢true (sym delete ∙ is)))))))))))))

executes_control : (at : Context) (byte : ℕ) → executes (action_of at byte) ≡ true → is_control byte ≡ true
unfolding executes
executes_control context.Ground byte is = executes_in (λ (a : Actions). a.on_ground) byte refl refl refl refl refl refl is
executes_control context.Sequence byte is = executes_in (λ (a : Actions). a.in_sequence) byte refl refl refl refl refl refl is
executes_control context.Text byte is = executes_in (λ (a : Actions). a.in_string) byte refl refl refl refl refl refl is

-- in a string none is executed
quiet : SyntaxRow → Bool
quiet row = not (executes row.actions.in_string)

either_none : (b : Bool) (one two : Actions) → executes one.in_string ≡ false → executes two.in_string ≡ false → executes (if b then one else two).in_string ≡ false
either_none true one two first second = first
either_none false one two first second = second

unless : (b : Bool) → not b ≡ true → b ≡ false
unless true is = absurd cc
unless false is = refl

rows_run_none : (rows : List SyntaxRow) (byte : ℕ) → list_all quiet rows ≡ true → executes (actions_in rows byte).in_string ≡ false
unfolding executes quiet
rows_run_none [] byte all = refl
rows_run_none (row ∷ rest) byte all =
    let parts = and_parts (quiet row) (list_all quiet rest) all in
    either_none (is_within row.first row.last byte) row.actions (actions_in rest byte) (unless (executes row.actions.in_string) parts.0) (rows_run_none rest byte parts.1)

text_executes_none : (byte : ℕ) → executes (action_of context.Text byte) ≡ false
unfolding executes quiet
text_executes_none byte = rows_run_none table byte refl

in_text : (p : List ℕ) → is_string_begun p ≡ true → context_of Ansi p ≡ context.Text
unfolding context_of
in_text [] is = absurd (false≢true is)
in_text (byte ∷ rest) is = ap (λ b. if b then context.Text else context.Sequence) is

control_ends : (p : List ℕ) (byte c : ℕ) → command_of Ansi p byte ≡ Some (ControlOf c) → ends_last p byte ≡ true
unfolding command_of executes is_control_command
control_ends p byte c is =
    let a = action_of (context_of Ansi p) byte in
    let run : a ≡ Execute = executed a p byte (ap is_control_command is) in
    let runs : executes a ≡ true = ap executes run in
    let control = executes_control (context_of Ansi p) byte runs in
    let outside : is_string_begun p ≡ false = elim (cases_Bool (is_string_begun p)) [
      | inl inside ↦ absurd (false≢true (sym (text_executes_none byte) ∙ ap (λ at. executes (action_of at byte)) (sym (in_text p inside)) ∙ runs))
      | inr outside ↦ outside
    ] in
    simp (control, outside)

some_pending : (p : List ℕ) → 1 ≤ length p → is_ground p ≡ false
some_pending [] some = absurd (omega arith)
some_pending (byte ∷ rest) some = refl

-- two bytes at least are a sequence
sequence_ends : (p : List ℕ) (byte : ℕ) (command : Command) → command_of Ansi p byte ≡ Some command → is_sequence command ≡ true → 2 ≤ fewest_of (Some command)
    → (ends_last p byte ≡ true) × (pending_after Ansi p byte ≡ [])
sequence_ends p byte command is sequence two =
    let left = finished_leaves_nothing Ansi p byte command is sequence in
    let pays = pending_pays Ansi p byte in
    let few : fewest_of (command_of Ansi p byte) ≡ fewest_of (Some command) = ap fewest_of is in
    let some = some_pending p (omega arith) in
    let none : is_ground (pending_after Ansi p byte) ≡ true = ap is_ground left in
    (either_way (is_control byte && not (is_string_begun p)) (is_ground p) (is_ground (pending_after Ansi p byte)) some none, left)
  where
    either_way : (a b c : Bool) → b ≡ false → c ≡ true → (a || (not b && c)) ≡ true
    either_way true b c one two = refl
    either_way false b c one two = simp (one, two)

-- ---- what a term is

pub record Whole (x : Term) : Type 0 where
  pub safe : IsSafe x.console
  pub fit : Fit x.console
  pub reached : Reached x.console
  pub stands : LastStands x.console x.console.last
  pub titled : x.console.title ≡ true → (x.console.last ≡ None) × (x.sequence ≡ []) × (x.character ≡ [])
  pub ground : is_ground x.character ≡ false → x.sequence ≡ []
  pub front : IsFront x.character

-- the parts that an outcome has by itself
record Parts (o : Outcome) : Type 0 where
  reached : Reached o.console
  stands : LastStands o.console o.console.last
  titled : o.console.title ≡ true → (o.console.last ≡ None) × (o.sequence ≡ []) × (o.character ≡ [])
  ground : is_ground o.character ≡ false → o.sequence ≡ []

either_parts : (b : Bool) (o q : Outcome) → (b ≡ true → Parts o) → (b ≡ false → Parts q) → Parts (if b then o else q)
either_parts true o q one two = one refl
either_parts false o q one two = two refl

no_last : (s : Console) → s.last ≡ None → LastStands s s.last
no_last s none = subst (λ l. LastStands s l) (sym none) tt

untitled : (s : Console) (sequence character : List ℕ) → s.title ≡ false → s.title ≡ true → (s.last ≡ None) × (sequence ≡ []) × (character ≡ [])
untitled s sequence character none is = absurd (false≢true (sym none ∙ is))

keeps_forgotten : (b : Bool) (s : Console) → Keeps s → Keeps (forgotten_if b s)
keeps_forgotten true s stands = tt
keeps_forgotten false s stands = stands

forgets : (b : Bool) (s : Console) → b ≡ true → (forgotten_if b s).last ≡ None
forgets true s is = refl
forgets false s is = absurd (false≢true is)

title_if : (b : Bool) (s : Console) → (forgotten_if b s).title ≡ s.title
title_if true s = refl
title_if false s = refl

control_title : (row : Option Control) (s : Console) → (effect_of control_effect row s).title ≡ s.title
control_title None s = refl
control_title (Some Bs) s = refl
control_title (Some Ht) s = refl
control_title (Some Lf) s = refl
control_title (Some Cr) s = refl
control_title (Some So) s = refl
control_title (Some Si) s = refl

-- what a byte of the syntax leaves of a title and the last character
record Leaves (s : Console) (sequence : List ℕ) (byte : ℕ) (command : Option Command) : Type 0 where
  stands : Keeps (forgotten_if (ends_last sequence byte) (effect_of effect command s))
  titled : (effect_of effect command s).title ≡ true → ((forgotten_if (ends_last sequence byte) (effect_of effect command s)).last ≡ None) × (pending_after Ansi sequence byte ≡ [])

module _ (laws : LawsBelow) (fits : FitLaws) (safe_played : StaysSafe) where
  left_alone : (s t : Console) (sequence : List ℕ) (byte : ℕ) → s.title ≡ false → t.title ≡ s.title → Keeps t
      → Keeps (forgotten_if (ends_last sequence byte) t)
      × (t.title ≡ true → ((forgotten_if (ends_last sequence byte) t).last ≡ None) × (pending_after Ansi sequence byte ≡ []))
  left_alone s t sequence byte title same stands =
      (keeps_forgotten (ends_last sequence byte) t stands, λ is. absurd (false≢true (sym title ∙ sym same ∙ is)))

  leaves : (s : Console) (sequence : List ℕ) (byte : ℕ) (command : Option Command) → command_of Ansi sequence byte ≡ command → IfSome command IsProper → IsSafe s → Fit s → s.title ≡ false → Keeps s
      → Leaves s sequence byte command
  unfolding effect
  leaves s sequence byte None is proper safe fit title stands =
      let alone = left_alone s s sequence byte title refl stands in record { stands = alone.0; titled = alone.1 }
  leaves s sequence byte (Some (Show shown)) is proper safe fit title stands =
      let t : Console = put (character_for s shown) s in
      let alone = left_alone s t sequence byte title (put_others (character_for s shown) s).title
      (keeps_put fits s safe fit (character_for s shown) (set_given (set_in_use s.sets) shown proper.0 proper.1) stands) in
      record { stands = alone.0; titled = alone.1 }
  leaves s sequence byte (Some Error) is proper safe fit title stands =
      let alone = left_alone s s sequence byte title refl stands in record { stands = alone.0; titled = alone.1 }
  leaves s sequence byte (Some (ControlOf c)) is proper safe fit title stands =
      let t : Console = effect_of control_effect (named controls c) s in
      let ends = control_ends sequence byte c is in
      record {
        stands = no_last (forgotten_if (ends_last sequence byte) t) (forgets (ends_last sequence byte) t ends);
        titled = λ on. absurd (false≢true (sym title ∙ sym (control_title (named controls c) s) ∙ on));
      }
  leaves s sequence byte (Some (Esc inter last)) is proper safe fit title stands =
      let t : Console = effect_of effect (Some (Esc inter last)) s in
      let ends = sequence_ends sequence byte (Esc inter last) is refl (omega arith) in
      record {
        stands = no_last (forgotten_if (ends_last sequence byte) t) (forgets (ends_last sequence byte) t ends.0);
        titled = λ on. (forgets (ends_last sequence byte) t ends.0, ends.1);
      }
  leaves s sequence byte (Some (Csi private params last)) is proper safe fit title stands =
      let t : Console = effect_of effect (Some (Csi private params last)) s in
      let ends = sequence_ends sequence byte (Csi private params last) is refl (omega arith) in
      record {
        stands = no_last (forgotten_if (ends_last sequence byte) t) (forgets (ends_last sequence byte) t ends.0);
        titled = λ on. (forgets (ends_last sequence byte) t ends.0, ends.1);
      }
  leaves s sequence byte (Some (Vt52 last)) is proper safe fit title stands =
      let alone = left_alone s s sequence byte title refl stands in record { stands = alone.0; titled = alone.1 }
  leaves s sequence byte (Some (Vt52Address line column)) is proper safe fit title stands =
      let alone = left_alone s s sequence byte title refl stands in record { stands = alone.0; titled = alone.1 }

  -- U+FFFD
  replaced : (s : Console) → IsGiven (set_in_use s.sets) replacement
  replaced s = inr (spelt replacement (omega arith) (inr (omega arith, omega arith)))

  safe_replaced : (s : Console) → s.title ≡ false → IsSafe s → IsSafe (put replacement s)
  safe_replaced s title safe =
      let bytes = encode_utf8 replacement in
      let spells = spelt replacement (omega arith) (inr (omega arith, omega arith)) in
      subst (λ (x : Term). IsSafe x.console) ((character_brings s bytes replacement title spells).played []) (safe_played (on_ground s []) bytes safe)

  parts_read : (s : Console) (sequence : List ℕ) (byte : ℕ) → IsSafe s → Fit s → Reached s → Keeps s → (s.title ≡ true → (s.last ≡ None) × (sequence ≡ [])) → Parts (read s sequence byte)
  unfolding read
  parts_read s sequence byte safe fit reached stands alone =
      either_parts s.title (title_read s sequence byte) _
      (λ title.
      let is = alone title in
      either_parts (byte == escape) _ _
      (λ e. record { reached = reached_titled false s reached; stands = no_last (title_set false s) is.0; titled = untitled (title_set false s) _ [] refl; ground = λ none. refl_absurd none })
      (λ e. either_parts (ends_title byte) _ _
      (λ f. record { reached = reached_titled false s reached; stands = no_last (title_set false s) is.0; titled = untitled (title_set false s) sequence [] refl; ground = λ none. refl_absurd none })
      (λ f. record { reached = reached; stands = stands; titled = λ on. (is.0, is.1, refl); ground = λ none. refl_absurd none })))
      (λ title. either_parts (is_ground sequence && nat_le 128 byte) _ _
      (λ g. either_parts (begins byte) _ _
      (λ b. record { reached = reached; stands = stands; titled = untitled s [] (byte ∷ []) title; ground = λ none. refl })
      (λ b. record {
        reached = reached_put replacement s reached;
        stands = keeps_put fits s safe fit replacement (replaced s) stands;
        titled = untitled (put replacement s) [] [] ((put_others replacement s).title ∙ title);
        ground = λ none. refl;
      }))
      (λ g.
      let ends = ends_last sequence byte in
      let command = command_of Ansi sequence byte in
      let left = leaves s sequence byte command refl (fits.proper Ansi sequence byte) safe fit title stands in
      record {
        reached = reached_forgotten ends _ (reached_command command s (bounded s.picture safe.sound) reached);
        stands = left.stands;
        titled = λ on. let is = left.titled (sym (title_if ends (effect_of effect command s)) ∙ on) in (is.0, is.1, refl);
        ground = λ none. refl_absurd none;
      }))
    where
      refl_absurd : {A : Type 0} → true ≡ false → A
      refl_absurd none = absurd cc

  parts_gone : (r : Reading) (s : Console) (sequence character : List ℕ) (byte : ℕ) → IsSafe s → Fit s → Reached s → Keeps s → s.title ≡ false → sequence ≡ [] → IsFront character
      → reading character byte ≡ r → Parts (gone_on r s sequence character byte)
  parts_gone (Character c) s sequence character byte safe fit reached stands title none front is =
      let upper = read_upper character byte c front is in
      record {
        reached = reached_put c s reached;
        stands = keeps_put fits s safe fit c (inr (spelt c upper.0 upper.1)) stands;
        titled = untitled (put c s) sequence [] ((put_others c s).title ∙ title);
        ground = λ some. none;
      }
  parts_gone More s sequence character byte safe fit reached stands title none front is =
      record { reached = reached; stands = stands; titled = untitled s sequence (character ++ byte ∷ []) title; ground = λ some. none }
  parts_gone Broken s sequence character byte safe fit reached stands title none front is =
      let t : Console = put replacement s in
      let after : t.title ≡ false = (put_others replacement s).title ∙ title in
      parts_read t sequence byte (safe_replaced s title safe) (fit_put fits replacement s (inr (omega arith, inr (omega arith, omega arith))) fit) (reached_put replacement s reached)
      (keeps_put fits s safe fit replacement (replaced s) stands) (λ on. absurd (false≢true (sym after ∙ on)))

  parts_of : (x : Term) (byte : ℕ) → Whole x → Parts (outcome_at x byte)
  unfolding outcome_of
  parts_of x byte whole =
      either_parts (is_ground x.character) (read x.console x.sequence byte) _
      (λ none. parts_read x.console x.sequence byte whole.safe whole.fit whole.reached whole.stands (λ title. let is = whole.titled title in (is.0, is.1)))
      (λ some. parts_gone (reading x.character byte) x.console x.sequence x.character byte whole.safe whole.fit whole.reached whole.stands (no_title some) (whole.ground some) whole.front refl)
    where
      no_title : is_ground x.character ≡ false → x.console.title ≡ false
      no_title some = elim (cases_Bool x.console.title) [
        | inl title ↦ absurd (false≢true (sym some ∙ ap is_ground (whole.titled title).2))
        | inr none ↦ none
      ]

  whole_step : (x : Term) (byte : ℕ) → Whole x → Whole (step x byte)
  unfolding play
  whole_step x byte whole =
      let parts = parts_of x byte whole in
      let fitted = fit_outcome fits x.console x.sequence x.character byte whole.fit whole.front in
      record {
        safe = safe_played x (byte ∷ []) whole.safe;
        fit = fitted.is;
        reached = parts.reached;
        stands = parts.stands;
        titled = parts.titled;
        ground = parts.ground;
        front = fitted.front;
      }

  whole_play : (x : Term) (bytes : List ℕ) → Whole x → Whole (play x bytes)
  unfolding play
  whole_play x [] whole = whole
  whole_play x (byte ∷ bytes) whole = whole_play (step x byte) bytes (whole_step x byte whole)

  -- a reset one is
  pub whole_of_reset : (columns lines : ℕ) (bytes : List ℕ) → IsSafe (reset_term columns lines).console → Whole (play (reset_term columns lines) bytes)
  whole_of_reset columns lines bytes safe = whole_play (reset_term columns lines) bytes (record {
    safe = safe;
    fit = fit_reset fits columns lines;
    reached = reached_reset columns lines;
    stands = tt;
    titled = λ on. absurd (false≢true on);
    ground = λ some. refl;
    front = tt;
  })
