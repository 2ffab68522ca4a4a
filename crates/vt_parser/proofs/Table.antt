-- What the table of the control syntax says of a byte by what is done with it.
use Rattle.std.proofs.Common.{◌≡◌, ℕ, Bool, true, false, not, ◌==◌, ◌&&◌, refl, sym, subst, arith}
use Rattle.std.proofs.lemmas.Bool.Decides.{nat_tests}
use Rattle.vt_parser.specs.declared.syntax.Context.{Context}
use Rattle.vt_parser.specs.declared.syntax.Context.TheVariants.{Ground, Sequence, Text}
use Rattle.vt_parser.specs.declared.syntax.Action.{Action}
use Rattle.vt_parser.specs.declared.syntax.Action.TheVariants.{Print, Execute, Ignore, Begin, Join, End, Cancel}
use Rattle.vt_parser.specs.Syntax.{escape, is_within, is_graphic, actions_of, action_of}
use Rattle.vt_parser.specs.Ahead.{is_print, is_join, is_begin, Idles}

abbrev pub is_sequence : Context → Bool
is_sequence Sequence = true
is_sequence _ = false

-- an action is taken there with this byte
abbrev pub fits : ℕ → Context → Action → Bool
fits byte context Print = is_graphic byte
fits byte context Join = is_graphic byte && is_sequence context
fits byte context Begin = byte == escape
fits byte context End = true
fits byte context Cancel = true
fits byte context _ = not (byte == escape)

pub fit : (context : Context) (byte : ℕ) → fits byte context (action_of context byte) ≡ true
fit Ground byte = grind (arith, nat_tests)
fit Sequence byte = grind (arith, nat_tests)
fit Text byte = grind (arith, nat_tests)

pub graphic_on_ground : (byte : ℕ) → is_graphic byte ≡ true → action_of Ground byte ≡ Print
graphic_on_ground byte is = grind (arith, nat_tests)

pub graphic_in_sequence : (byte : ℕ) → is_graphic byte ≡ true → action_of Sequence byte ≡ Join
graphic_in_sequence byte is = grind (arith, nat_tests)

pub graphic_in_string : (byte : ℕ) → is_graphic byte ≡ true → action_of Text byte ≡ Ignore
graphic_in_string byte is = grind (arith, nat_tests)

pub control_on_ground : (byte : ℕ) → is_within 8 15 byte ≡ true → action_of Ground byte ≡ Execute
control_on_ground byte is = grind (arith, nat_tests)

-- ---- what is decided ahead of the table

pub graphic_is_printed : (byte : ℕ) → is_graphic byte ≡ is_print (actions_of byte).on_ground
graphic_is_printed byte = grind (arith, nat_tests)

pub graphic_is_joined : (byte : ℕ) → is_graphic byte ≡ is_join (actions_of byte).in_sequence
graphic_is_joined byte = grind (arith, nat_tests)

pub escape_opens : (context : Context) (byte : ℕ) → (byte == escape) ≡ is_begin (action_of context byte)
escape_opens Ground byte = grind (arith, nat_tests)
escape_opens Sequence byte = grind (arith, nat_tests)
escape_opens Text byte = grind (arith, nat_tests)

nul_skips : Idles 0
nul_skips Ground = refl
nul_skips Sequence = refl
nul_skips Text = tt

pub nul_idles : (byte : ℕ) → (byte == 0) ≡ true → Idles byte
nul_idles byte is = let same : byte ≡ 0 = grind (arith, nat_tests) in subst Idles (sym same) nul_skips
