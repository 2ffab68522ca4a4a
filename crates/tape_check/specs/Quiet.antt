-- Sequences that have no row and aren't told either: they change no cell of a screen, or hardly ever (ours).
use Rattle.std.specs.Prelude.{ℕ, Bool, true, false, not, ◌==◌, ◌&&◌, ◌||◌, nat_eq, if◌then◌else◌, List, [], ◌∷◌, Option, Some, None}
use Rattle.std.specs.List.{list_any}
use Rattle.std.specs.Cmp.Lexicographic.{pointwise}
use Rattle.vt_parser.specs.declared.states.Formless.{Formless}
use Rattle.vt_parser.specs.declared.states.Formless.TheVariants.{Escape, ControlSequence}
use Rattle.vt_parser.specs.Syntax.{is_within}
use Rattle.tape_check.specs.declared.played.PlayedAs.{PlayedAs}
use Rattle.tape_check.specs.declared.played.PlayedAs.TheVariants.{Vt, Today}

-- `\`, which makes ESC \ the end of a string; it is no sequence of its own in either mode
abbrev pub ends_string : ℕ → Bool
ends_string last = last == 92

-- ---- under a VT100 or a VT102

-- private modes: a blinking and a shown cursor, the mouse, the meta key, pasting
abbrev pub changes_no_cell : ℕ → Bool
changes_no_cell param =
    (param == 12) || (param == 25) || is_within 1000 1006 param
    || (param == 1015) || (param == 1034) || (param == 2004)

-- ---- under a terminal of today

-- the private modes that are told: DECANM, DECCOLM, reverse wrap, DECLRMM, DECNCSM (xterm)
abbrev pub is_told_mode : ℕ → Bool
is_told_mode param = (param == 2) || (param == 3) || (param == 45) || (param == 69) || (param == 95)

-- q and t; with `?` c n q r s u m
abbrev pub is_quiet_final : Bool → ℕ → Bool
is_quiet_final false last = (last == 113) || (last == 116)
is_quiet_final true last =
    (last == 99) || (last == 110) || (last == 113) || (last == 114) || (last == 115) || (last == 117) || (last == 109)

-- the intermediates SP % * + - . /
abbrev pub is_quiet_intermediate : ℕ → Bool
is_quiet_intermediate inter =
    (inter == 32) || (inter == 37) || (inter == 42) || (inter == 43) || (inter == 45) || (inter == 46) || (inter == 47)

-- of texts that aren't well formed: with the final byte p all but `!`, with m those without `:`, with c n q t u all
abbrev pub is_quiet_text : List ℕ → ℕ → Bool
is_quiet_text text last =
    ((last == 112) && not (pointwise nat_eq text (33 ∷ [])))
    || ((last == 109) && not (list_any (λ byte. byte == 58) text))
    || (last == 99) || (last == 110) || (last == 113) || (last == 116) || (last == 117)

-- ---- by the terminal

-- an escape sequence, by its intermediate and its final byte
abbrev pub is_quiet_escape : PlayedAs → Option ℕ → ℕ → Bool
is_quiet_escape played None last = ends_string last
is_quiet_escape (Vt profile) (Some inter) last = false
is_quiet_escape (Today columns lines) (Some inter) last = is_quiet_intermediate inter

-- a control sequence other than h and l, with `?` or without, by its final byte
abbrev pub is_quiet_sequence : PlayedAs → Bool → ℕ → Bool
is_quiet_sequence (Vt profile) private last = false
is_quiet_sequence (Today columns lines) private last = is_quiet_final private last

-- a parameter of h and l, with `?` or without
abbrev pub is_quiet_mode : PlayedAs → Bool → ℕ → Bool
is_quiet_mode (Vt profile) private param = private && changes_no_cell param
is_quiet_mode (Today columns lines) private param = not (private && is_told_mode param)

-- of the sequences without a command the one that isn't quiet, by the text behind its introducer
abbrev pub loud_form : List ℕ → Option Formless → Option Formless
loud_form text None = None
loud_form text (Some (Escape last)) = Some (Escape last)
loud_form text (Some (ControlSequence last)) =
    if is_quiet_text text last then None else Some (ControlSequence last)
