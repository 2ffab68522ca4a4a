-- What a terminal replies (EK-VT100-UG chapter 3, reports). Nothing else has a reply.
use Rattle.std.specs.Prelude.{ℕ, ◌-◌, Bool, List, [], ◌∷◌, ◌++◌, Option, Some, None, ◌==◌, codes, decimal, if◌then◌else◌}
use Rattle.vt_parser.specs.Syntax.{escape}
use Rattle.xterm_term.specs.Escapes.{Escape, Decid}
use Rattle.xterm_term.specs.Sequences.{Sequence, Da, Dsr, Decreqtparm}
use Rattle.xterm_term.specs.Console.{Console}

-- DA: a VT100 with the Advanced Video Option (EK-VT100-UG chapter 3)
abbrev pub device_attributes : List ℕ
device_attributes = escape ∷ codes "[?1;2c"

-- DSR: no malfunction (EK-VT100-UG chapter 3)
abbrev pub ready : List ℕ
ready = escape ∷ codes "[0n"

-- the cursor's line, counted from the top margin where DECOM is set (EK-VT100-UG chapter 3)
abbrev pub reported_line : Bool → ℕ → ℕ → ℕ
reported_line origin line top = if origin then line - (top - 1) else line

-- CPR: line and column (EK-VT100-UG chapter 3)
abbrev pub cursor_position : ℕ → ℕ → List ℕ
cursor_position line column =
    escape ∷ codes "[" ++ decimal line ++ codes ";" ++ decimal column ++ codes "R"

-- DECREPTPARM: no parity, 8 bits, 9,600 baud both ways (the values: ours)
abbrev pub terminal_parameters : List ℕ → List ℕ
terminal_parameters solicited = escape ∷ codes "[" ++ solicited ++ codes ";1;1;112;112;1;0x"

-- DECID (EK-VT100-UG chapter 3)
abbrev pub escape_reply : Escape → Console → List ℕ
escape_reply Decid s = device_attributes
escape_reply _ s = []

-- the table of the replies to control sequences, by the first parameter (EK-VT100-UG chapter 3)
abbrev pub sequence_reply : Sequence → ℕ → Console → List ℕ
sequence_reply Da param s = if param == 0 then device_attributes else []
sequence_reply Dsr param s =
    let line = reported_line s.modes.origin s.picture.line s.picture.top in
    if param == 5 then ready
    else (if param == 6 then cursor_position line s.picture.column
    else [])
sequence_reply Decreqtparm param s =
    if param == 0 then terminal_parameters (codes "2")
    else (if param == 1 then terminal_parameters (codes "3")
    else [])
sequence_reply _ param s = []

-- What stands in no table has no reply, nor has a byte that gives no command.
abbrev pub reply_of : {Name : Type 0} → (Name → Console → List ℕ) → Option Name → Console → List ℕ
reply_of reply None s = []
reply_of reply (Some row) s = reply row s
