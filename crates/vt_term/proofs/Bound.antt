-- How long replies are, and how long all of them together.
use Rattle.std.proofs.Common.{ℕ, ◌+◌, ◌*◌, ◌<◌, ◌≤◌, Bool, true, false, List, [], ◌∷◌, length, arith}
use Rattle.std.specs.Prelude.{Option, Some, None, decimal}
use Rattle.std.proofs.lemmas.Bool.Decides.{nat_tests}
use Rattle.std.proofs.lemmas.List.{length-append}
use Rattle.std.proofs.lemmas.Fmt.{length-decimal-le}
use Rattle.vt_parser.specs.declared.commands.Command.{Command}
use Rattle.vt_parser.specs.declared.commands.Command.TheVariants.{Esc, Csi, Vt52}
use Rattle.vt_parser.specs.Step.{command_of}
use Rattle.vt_parser.specs.Law.{fewest_bytes, fewest_of}
use Rattle.vt_screen.specs.Picture.{Picture, Sound}
use Rattle.vt_term.specs.declared.profile.Profile.{Profile}
use Rattle.vt_term.specs.declared.profile.Profile.TheVariants.{Vt100, Vt102}
use Rattle.vt_term.specs.Rows.{named}
use Rattle.vt_term.specs.Console.{Console, IsSafe}
use Rattle.vt_term.specs.Escapes.{Escape, Decid, escape_named}
use Rattle.vt_term.specs.Sequences.{Sequence, Da, Dsr, Decreqtparm, sequences, param_or}
use Rattle.vt_term.specs.Vt52.{Vt52Sequence, Identify, vt52_sequences}
use Rattle.vt_term.specs.Replies.{escape_reply, sequence_reply, vt52_reply, reply_of, cursor_position, reported_line, device_attributes}
use Rattle.vt_term.specs.Effect.{reply, control_sequence_reply}
use Rattle.vt_term.specs.Term.{Term, reset_term_as, mode_of, reply_to, step, sent}
use Rattle.vt_parser.proofs.LawLemmas.{pending_pays}
use Rattle.vt_screen.proofs.SoundRows.{right_margin_high}
use Rattle.vt_term.specs.Law.{SendsLittle}
use Rattle.vt_term.proofs.Safe.{safe_reset}
use Rattle.vt_term.proofs.Steps.{safe_step}

-- ---- one reply

length-cursor_position : (line column : ℕ) → line < 100 → column < 1000 → length (cursor_position line column) ≤ 9
length-cursor_position line column low high =
    let two : length (decimal line) ≤ 2 = length-decimal-le 2 line (omega arith) (omega arith) (omega arith) in
    let three : length (decimal column) ≤ 3 = length-decimal-le 3 column (omega arith) (omega arith) (omega arith) in
    simp length-append (omega arith)

line_small : (origin : Bool) (p : Picture) → Sound p → reported_line origin p.line p.top < 100
line_small true p sound = omega (arith, sound.line_high)
line_small false p sound = omega (arith, sound.line_high)

attributes_short : (profile : Profile) → length (device_attributes profile) ≤ 7
attributes_short Vt100 = omega arith
attributes_short Vt102 = omega arith

-- at most seven bytes answer the shorter sequences
escape_short : (escape : Option Escape) (s : Console) → length (reply_of escape_reply escape s) ≤ 7
escape_short (Some Decid) s = attributes_short s.profile
escape_short _ s = omega arith

vt52_short : (sequence : Option Vt52Sequence) (s : Console) → length (reply_of vt52_reply sequence s) ≤ 7
vt52_short (Some Identify) s = omega arith
vt52_short _ s = omega arith

-- ---- what stands on the laws of the parser and of the screen

short_position : (s : Console) → IsSafe s
    → length (cursor_position (reported_line s.modes.origin s.picture.line s.picture.top) s.picture.column) ≤ 20
short_position s safe =
    let line = line_small s.modes.origin s.picture safe.sound in
    let column = right_margin_high s.picture s.picture.line in
    let within = safe.sound.column_high in
    let nine = length-cursor_position (reported_line s.modes.origin s.picture.line s.picture.top) s.picture.column line (omega arith) in
    omega arith

-- and at most twenty a control sequence
short_sequence : (sequence : Option Sequence) (param : ℕ) (s : Console) → IsSafe s
    → length (reply_of (λ row. sequence_reply row param) sequence s) ≤ 20
short_sequence (Some Da) param s safe = grind (arith, nat_tests, attributes_short s.profile)
short_sequence (Some Dsr) param s safe = grind (arith, nat_tests, short_position s safe)
short_sequence (Some Decreqtparm) param s safe = grind (arith, nat_tests)
short_sequence _ param s safe = omega arith

short_control_sequence : (private : Bool) (last : ℕ) (params : List ℕ) (s : Console) → IsSafe s
    → length (control_sequence_reply private last params s) ≤ 20
short_control_sequence true last params s safe = omega arith
short_control_sequence false last params s safe = short_sequence (named sequences last) (param_or params 0 0) s safe

-- a reply is paid by the bytes that its command takes at least
reply_paid : (command : Command) (s : Console) → IsSafe s → 3 * length (reply command s) ≤ 20 * fewest_bytes command
unfolding reply
reply_paid (Esc inter last) s safe = omega (arith, escape_short (escape_named inter last) s)
reply_paid (Csi private params last) s safe =
    let short = short_control_sequence private last params.items s safe in
    omega arith
reply_paid (Vt52 last) s safe = omega (arith, vt52_short (named vt52_sequences last) s)
reply_paid _ s safe = omega arith

-- ---- all replies

reply_paid_if : (command : Option Command) (s : Console) → IsSafe s → 3 * length (reply_of reply command s) ≤ 20 * fewest_of command
reply_paid_if None s safe = omega arith
reply_paid_if (Some command) s safe = reply_paid command s safe

-- what is pending counts as bytes that are still to be paid
answer_paid : (x : Term) (byte : ℕ) → IsSafe x.console
    → 3 * length (reply_to x byte) + 20 * length (step x byte).pending ≤ 20 * length x.pending + 20
answer_paid x byte safe =
    let paid = reply_paid_if (command_of (mode_of x) x.pending byte) x.console safe in
    let pays = pending_pays (mode_of x) x.pending byte in
    omega arith

pub sent_paid : (x : Term) (bytes : List ℕ) → IsSafe x.console → 3 * length (sent x bytes) ≤ 20 * length x.pending + 20 * length bytes
unfolding sent
sent_paid x [] safe = omega arith
sent_paid x (byte ∷ bytes) safe =
    let first = answer_paid x byte safe in
    let rest = sent_paid (step x byte) bytes (safe_step x byte safe) in
    omega (arith, length-append (reply_to x byte) (sent (step x byte) bytes))

pub sends_little : SendsLittle
sends_little profile bytes = omega (arith, sent_paid (reset_term_as profile) bytes (safe_reset profile))
