-- Private: what is decided ahead of the table of the control syntax, and what the table says of it.
use Rattle.std.specs.Prelude.{◌≡◌, ℕ, Bool, true, false, not, None}
use Rattle.vt_parser.specs.declared.syntax.Context.{Context}
use Rattle.vt_parser.specs.declared.syntax.Action.{Action}
use Rattle.vt_parser.specs.declared.syntax.Action.TheVariants.{Ignore, Execute, Print, Begin, Join}
use Rattle.vt_parser.specs.Syntax.{is_graphic, action_of}
use Rattle.vt_parser.specs.Step.{control_of}

-- no graphic character
abbrev pub is_other : ℕ → Bool
is_other byte = not (is_graphic byte)

abbrev pub is_print : Action → Bool
is_print Print = true
is_print _ = false

abbrev pub is_join : Action → Bool
is_join Join = true
is_join _ = false

abbrev pub is_begin : Action → Bool
is_begin Begin = true
is_begin _ = false

-- the action changes nothing, and gives no command for this byte
abbrev pub Skips : Action → ℕ → Type 0
Skips Ignore byte = Unit {0}
Skips Execute byte = control_of byte ≡ None
Skips _ byte = ⊥

-- the byte changes nothing wherever it comes
abbrev pub Idles : ℕ → Type 0
Idles byte = (context : Context) → Skips (action_of context byte) byte
