-- The control syntax: what is done with a byte, by the byte and by where it comes.
use Rattle.std.specs.Prelude.{ℕ, Bool, ◌&&◌, nat_le, if◌then◌else◌, List, [], ◌∷◌}
use Rattle.vt_parser.specs.declared.syntax.Context.{Context}
use Rattle.vt_parser.specs.declared.syntax.Context.TheVariants.{Ground, Sequence, Text}
use Rattle.vt_parser.specs.declared.syntax.Action.{Action}
use Rattle.vt_parser.specs.declared.syntax.Action.TheVariants.{Ignore, Execute, Print, Mark, Begin, Join, End, Cancel}

-- the byte ESC (ECMA-48 section 5.2)
abbrev pub escape : ℕ
escape = 27

-- a byte from low to high
abbrev pub is_within : ℕ → ℕ → ℕ → Bool
is_within low high byte = nat_le low byte && nat_le byte high

-- a graphic character of ASCII, the space included (ECMA-48 section 5.1)
abbrev pub is_graphic : ℕ → Bool
is_graphic byte = is_within 32 126 byte

-- what is done with a byte on ground, inside a sequence and inside a string
pub record Actions : Type 0 where
  pub on_ground : Action
  pub in_sequence : Action
  pub in_string : Action

-- a row of the table: the bytes from first to last, and what is done with each of them
pub record SyntaxRow : Type 0 where
  pub first : ℕ
  pub last : ℕ
  pub actions : Actions

-- the same, cell by cell
abbrev pub row : ℕ → ℕ → Action → Action → Action → SyntaxRow
row first last on_ground in_sequence in_string =
    record {
      first = first;
      last = last;
      actions = record { on_ground = on_ground; in_sequence = in_sequence; in_string = in_string };
    }

-- The table of the control syntax (EK-VT100-UG chapter 3; BEL in a string, CAN and SUB, and the bytes from 128 on:
-- ours).
abbrev pub table : List SyntaxRow
table =
    -- bytes    on ground  in a sequence  in a string
    row 0 6 Execute Execute Ignore ∷  -- NUL to ACK
    row 7 7 Ignore Ignore End ∷  -- BEL
    row 8 23 Execute Execute Ignore ∷  -- BS to ETB
    row 24 24 Ignore Cancel Cancel ∷  -- CAN
    row 25 25 Execute Execute Ignore ∷  -- EM
    row 26 26 Ignore Cancel Cancel ∷  -- SUB
    row 27 27 Begin Begin Begin ∷  -- ESC
    row 28 31 Execute Execute Ignore ∷  -- FS to US
    row 32 126 Print Join Ignore ∷  -- the graphic characters
    row 127 127 Ignore Ignore Ignore ∷  -- DEL
    row 128 255 Mark Ignore Ignore ∷  -- all others
    []

-- the row of a list that has a byte
abbrev pub actions_in : List SyntaxRow → ℕ → Actions
actions_in [] byte = record { on_ground = Ignore; in_sequence = Ignore; in_string = Ignore }
actions_in (row ∷ rest) byte = if is_within row.first row.last byte then row.actions else actions_in rest byte

-- the row of the table that has a byte
abbrev pub actions_of : ℕ → Actions
actions_of byte = actions_in table byte

-- what is done with a byte, by where it comes
abbrev pub action_of : Context → ℕ → Action
action_of Ground byte = (actions_of byte).on_ground
action_of Sequence byte = (actions_of byte).in_sequence
action_of Text byte = (actions_of byte).in_string
