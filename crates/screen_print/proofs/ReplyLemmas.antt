-- The reply to one byte is short.
use Rattle.std.proofs.Common.{ℕ, ◌<◌, ◌≤◌, Bool, true, false, List, [], ◌∷◌, length, arith}
use Rattle.std.specs.Prelude.{Option, Some, None, Result, Ok, Err, decimal}
use Rattle.std.specs.Result.{IsOk, OnOk}
use Rattle.std.proofs.lemmas.Bool.Decides.{nat_tests}
use Rattle.std.proofs.lemmas.List.{length-append}
use Rattle.std.proofs.lemmas.Fmt.{length-decimal-le}
use Rattle.vt_parser.specs.declared.commands.Command.{Command}
use Rattle.vt_parser.specs.declared.commands.Command.TheVariants.{Esc, Csi, Vt52}
use Rattle.vt_parser.specs.Step.{command_of}
use Rattle.vt_screen.specs.Limits.{wide_columns}
use Rattle.vt_screen.specs.Picture.{Picture, Sound, right_margin}
use Rattle.vt_term.specs.declared.profile.Profile.{Profile}
use Rattle.vt_term.specs.declared.profile.Profile.TheVariants.{Vt100, Vt102}
use Rattle.vt_term.specs.Rows.{named}
use Rattle.vt_term.specs.Console.{Console, IsSafe}
use Rattle.vt_term.specs.Escapes.{Escape, Decid, escape_named}
use Rattle.vt_term.specs.Sequences.{Sequence, Da, Dsr, Decreqtparm, sequences, param_or}
use Rattle.vt_term.specs.Vt52.{Vt52Sequence, Identify, vt52_sequences}
use Rattle.vt_term.specs.Replies.{escape_reply, sequence_reply, vt52_reply, reply_of, cursor_position, reported_line, device_attributes}
use Rattle.vt_term.specs.Effect.{reply, control_sequence_reply}
use Rattle.vt_term.specs.Term.{Term, mode_of, reply_to, sent}

-- what holds on Ok, where it is Ok
pub on_ok_is : {T E P : Type 0} (r : Result T E) → IsOk r → OnOk r P → P
on_ok_is (Ok x) is h = h
on_ok_is (Err e) is h = cc

length-cursor_position : (line column : ℕ) → line < 100 → column < 1000 → length (cursor_position line column) ≤ 9
length-cursor_position line column low high =
    let two : length (decimal line) ≤ 2 = length-decimal-le 2 line (omega arith) (omega arith) (omega arith) in
    let three : length (decimal column) ≤ 3 = length-decimal-le 3 column (omega arith) (omega arith) (omega arith) in
    simp length-append (omega arith)

line_small : (origin : Bool) (p : Picture) → Sound p → reported_line origin p.line p.top < 100
line_small true p sound = omega (arith, sound.line_high)
line_small false p sound = omega (arith, sound.line_high)

attributes_short : (profile : Profile) → length (device_attributes profile) ≤ 7
attributes_short Vt100 = omega arith
attributes_short Vt102 = omega arith

escape_short : (escape : Option Escape) (s : Console) → length (reply_of escape_reply escape s) ≤ 7
escape_short (Some Decid) s = attributes_short s.profile
escape_short _ s = omega arith

vt52_short : (sequence : Option Vt52Sequence) (s : Console) → length (reply_of vt52_reply sequence s) ≤ 7
vt52_short (Some Identify) s = omega arith
vt52_short _ s = omega arith

module _ (margins : (p : Picture) (line : ℕ) → right_margin p line ≤ wide_columns) where
  short_position : (s : Console) → IsSafe s
      → length (cursor_position (reported_line s.modes.origin s.picture.line s.picture.top) s.picture.column) ≤ 20
  short_position s safe =
      let line = line_small s.modes.origin s.picture safe.sound in
      let column = margins s.picture s.picture.line in
      let within = safe.sound.column_high in
      let nine = length-cursor_position (reported_line s.modes.origin s.picture.line s.picture.top) s.picture.column line (omega arith) in
      omega arith

  short_sequence : (sequence : Option Sequence) (param : ℕ) (s : Console) → IsSafe s
      → length (reply_of (λ row. sequence_reply row param) sequence s) ≤ 20
  short_sequence (Some Da) param s safe = grind (arith, nat_tests, attributes_short s.profile)
  short_sequence (Some Dsr) param s safe = grind (arith, nat_tests, short_position s safe)
  short_sequence (Some Decreqtparm) param s safe = grind (arith, nat_tests)
  short_sequence _ param s safe = omega arith

  short_control_sequence : (private : Bool) (last : ℕ) (params : List ℕ) (s : Console) → IsSafe s
      → length (control_sequence_reply private last params s) ≤ 20
  short_control_sequence true last params s safe = omega arith
  short_control_sequence false last params s safe = short_sequence (named sequences last) (param_or params 0 0) s safe

  reply_short : (command : Command) (s : Console) → IsSafe s → length (reply command s) ≤ 20
  unfolding reply
  reply_short (Esc inter last) s safe = omega (arith, escape_short (escape_named inter last) s)
  reply_short (Csi private params last) s safe = short_control_sequence private last params.items s safe
  reply_short (Vt52 last) s safe = omega (arith, vt52_short (named vt52_sequences last) s)
  reply_short _ s safe = omega arith

  reply_short_if : (command : Option Command) (s : Console) → IsSafe s → length (reply_of reply command s) ≤ 20
  reply_short_if None s safe = omega arith
  reply_short_if (Some command) s safe = reply_short command s safe

  pub replies_are_short : (x : Term) (byte : ℕ) → IsSafe x.console → length (sent x (byte ∷ [])) ≤ 20
  unfolding sent
  replies_are_short x byte safe =
      let short = reply_short_if (command_of (mode_of x) x.pending byte) x.console safe in
      omega (arith, length-append (reply_to x byte) [])
