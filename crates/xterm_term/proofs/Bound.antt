-- How long replies are, and how long all of them together.
use Rattle.std.proofs.Common.{ℕ, ◌+◌, ◌*◌, ◌<◌, ◌≤◌, Bool, true, false, List, [], ◌∷◌, length, arith, ◌==◌, ◌&&◌, nat_le}
use Rattle.std.specs.Prelude.{Option, Some, None, decimal, if◌then◌else◌}
use Rattle.std.proofs.lemmas.Bool.Decides.{nat_tests}
use Rattle.std.proofs.lemmas.List.{length-append}
use Rattle.std.proofs.lemmas.Fmt.{length-decimal-le}
use Rattle.characters.specs.declared.utf8.Reading.{Reading}
use Rattle.characters.specs.declared.utf8.Reading.TheVariants.{Character, More, Broken}
use Rattle.characters.specs.Utf8.{begins, reading, replacement}
use Rattle.vt_parser.specs.declared.commands.Mode.TheVariants.{Ansi}
use Rattle.vt_parser.specs.declared.commands.Command.{Command}
use Rattle.vt_parser.specs.declared.commands.Command.TheVariants.{Esc, Csi}
use Rattle.vt_parser.specs.Syntax.{escape}
use Rattle.vt_parser.specs.Step.{command_of}
use Rattle.vt_parser.specs.Law.{fewest_bytes, fewest_of}
use Rattle.xterm_screen.specs.Picture.{Picture, Sound}
use Rattle.xterm_term.specs.Rows.{named}
use Rattle.xterm_term.specs.Size.{IsSize}
use Rattle.xterm_term.specs.Console.{Console, IsSafe}
use Rattle.xterm_term.specs.Puts.{put}
use Rattle.xterm_term.specs.Escapes.{Escape, Decid, escape_named}
use Rattle.xterm_term.specs.Sequences.{Sequence, Da, Dsr, Decreqtparm, sequences, param_or}
use Rattle.xterm_term.specs.Replies.{escape_reply, sequence_reply, reply_of, cursor_position, reported_line}
use Rattle.xterm_term.specs.Effect.{reply, control_sequence_reply}
use Rattle.xterm_term.specs.Term.{Term, Outcome, reset_term, reply_to, step, sent, read, title_read, gone_on, outcome_of, is_ground, ends_title}
use Rattle.xterm_term.specs.Law.{LawsBelow}
use Rattle.xterm_term.proofs.Stays.{safe_step}

-- ---- one reply

length-cursor_position : (line column : ℕ) → line < 1000 → column < 10000 → length (cursor_position line column) ≤ 11
length-cursor_position line column low high =
    let three : length (decimal line) ≤ 3 = length-decimal-le 3 line (omega arith) (omega arith) (omega arith) in
    let four : length (decimal column) ≤ 4 = length-decimal-le 4 column (omega arith) (omega arith) (omega arith) in
    simp length-append (omega arith)

line_small : (origin : Bool) (p : Picture) → Sound p → reported_line origin p.line p.top < 1000
line_small true p sound = omega (arith, sound.line_high, sound.lines_high)
line_small false p sound = omega (arith, sound.line_high, sound.lines_high)

-- at most seven bytes answer an escape sequence
escape_short : (escape : Option Escape) (s : Console) → length (reply_of escape_reply escape s) ≤ 7
escape_short (Some Decid) s = omega arith
escape_short _ s = omega arith

short_position : (s : Console) → IsSafe s
    → length (cursor_position (reported_line s.modes.origin s.picture.line s.picture.top) s.picture.column) ≤ 20
short_position s safe =
    let line = line_small s.modes.origin s.picture safe.sound in
    let within = safe.sound.column_high in
    let columns = safe.sound.columns_high in
    let eleven = length-cursor_position (reported_line s.modes.origin s.picture.line s.picture.top) s.picture.column line (omega arith) in
    omega arith

-- and at most twenty a control sequence
short_sequence : (sequence : Option Sequence) (param : ℕ) (s : Console) → IsSafe s
    → length (reply_of (λ row. sequence_reply row param) sequence s) ≤ 20
short_sequence (Some Da) param s safe = grind (arith, nat_tests)
short_sequence (Some Dsr) param s safe = grind (arith, nat_tests, short_position s safe)
short_sequence (Some Decreqtparm) param s safe = grind (arith, nat_tests)
short_sequence _ param s safe = omega arith

short_control_sequence : (private : Bool) (last : ℕ) (params : List ℕ) (s : Console) → IsSafe s
    → length (control_sequence_reply private last params s) ≤ 20
short_control_sequence true last params s safe = omega arith
short_control_sequence false last params s safe = short_sequence (named sequences last) (param_or params 0 0) s safe

-- a reply is paid by the bytes that its command takes at least
reply_paid : (command : Command) (s : Console) → IsSafe s → 3 * length (reply command s) ≤ 20 * fewest_bytes command
unfolding reply
reply_paid (Esc inter last) s safe = omega (arith, escape_short (escape_named inter last) s)
reply_paid (Csi private params last) s safe =
    let short = short_control_sequence private last params.items s safe in
    omega arith
reply_paid _ s safe = omega arith

reply_paid_if : (command : Option Command) (s : Console) → IsSafe s → 3 * length (reply_of reply command s) ≤ 20 * fewest_of command
reply_paid_if None s safe = omega arith
reply_paid_if (Some command) s safe = reply_paid command s safe

-- ---- all replies

-- what is pending counts as bytes that are still to be paid
record Paid (pending : List ℕ) (o : Outcome) : Type 0 where
  less : 3 * length o.reply + 20 * length o.sequence ≤ 20 * length pending + 20

paid_if : (b : Bool) (pending : List ℕ) (o q : Outcome) → Paid pending o → Paid pending q → Paid pending (if b then o else q)
paid_if true pending o q paid other = paid
paid_if false pending o q paid other = other

module _ (laws : LawsBelow) where
  title_paid : (s : Console) (pending : List ℕ) (byte : ℕ) → Paid pending (title_read s pending byte)
  title_paid s pending byte =
      let pays = laws.pending_pays Ansi pending byte in
      paid_if (byte == escape) pending _ _ (record { less = omega arith })
      (paid_if (ends_title byte) pending _ _ (record { less = omega arith }) (record { less = omega arith }))

  read_paid : (s : Console) (pending : List ℕ) (byte : ℕ) → IsSafe s → Paid pending (read s pending byte)
  unfolding read
  read_paid s pending byte safe =
      let paid = reply_paid_if (command_of Ansi pending byte) s safe in
      let pays = laws.pending_pays Ansi pending byte in
      paid_if s.title pending _ _ (title_paid s pending byte)
      (paid_if (is_ground pending && nat_le 128 byte) pending _ _
      (paid_if (begins byte) pending _ _ (record { less = omega arith }) (record { less = omega arith }))
      (record { less = omega arith }))

  gone_paid : (r : Reading) (s : Console) (pending character : List ℕ) (byte : ℕ) → IsSafe s → Paid pending (gone_on r s pending character byte)
  gone_paid (Character c) s pending character byte safe = record { less = omega arith }
  gone_paid More s pending character byte safe = record { less = omega arith }
  gone_paid Broken s pending character byte safe =
      read_paid (put replacement s) pending byte (laws.puts_keep_safe replacement s safe)

  outcome_paid : (s : Console) (pending character : List ℕ) (byte : ℕ) → IsSafe s → Paid pending (outcome_of s pending character byte)
  unfolding outcome_of
  outcome_paid s pending character byte safe =
      paid_if (is_ground character) pending _ _ (read_paid s pending byte safe) (gone_paid (reading character byte) s pending character byte safe)

  sent_paid : (x : Term) (bytes : List ℕ) → IsSafe x.console → 3 * length (sent x bytes) ≤ 20 * length x.sequence + 20 * length bytes
  unfolding sent
  sent_paid x [] safe = omega arith
  sent_paid x (byte ∷ bytes) safe =
      let first = (outcome_paid x.console x.sequence x.character byte safe).less in
      let rest = sent_paid (step x byte) bytes (safe_step laws x byte safe) in
      omega (arith, length-append (reply_to x byte) (sent (step x byte) bytes))

  pub sends_little : (columns lines : ℕ) (bytes : List ℕ) → IsSize columns lines → 3 * length (sent (reset_term columns lines) bytes) ≤ 20 * length bytes
  sends_little columns lines bytes size = omega (arith, sent_paid (reset_term columns lines) bytes (laws.reset_is_safe columns lines size))
