-- Characters that are put.
use Rattle.std.specs.Prelude.{ℕ, zero, suc, Bool, ◌==◌, ◌&&◌, nat_le, List, fold, Option, Some, None, if◌then◌else◌}
use Rattle.characters.specs.Width.{width}
use Rattle.xterm_screen.specs.Puts.{shown, is_dropped, mark_joined}
use Rattle.xterm_term.specs.Sets.{character_of, set_in_use}
use Rattle.xterm_term.specs.Console.{Console, on_picture, forgotten}

-- A character of width 1 or 2 is shown with the current rendition, inserted in insert mode, and is the last character
-- then; one of width 2 that is dropped leaves none (xterm, tmux).
abbrev pub shown_with : Bool → ℕ → Console → Console
shown_with wide character s = record s {
  picture = shown character wide s.rendition s.modes.autowrap s.modes.insert s.picture;
  last = (if is_dropped wide s.modes.autowrap s.rendition.paper s.picture then None else Some character);
}

-- U+0080 to U+009F put nothing (ours)
abbrev pub is_c1 : ℕ → Bool
is_c1 character = nat_le 0x80 character && nat_le character 0x9F

-- Private: the columns of a character that is put; none where it puts nothing
abbrev pub columns_of : ℕ → Option ℕ
columns_of character = if is_c1 character then None else Some (width character)

-- by its width
abbrev pub put_by_width : ℕ → ℕ → Console → Console
put_by_width zero character s = on_picture (mark_joined character) s
put_by_width (suc n) character s = shown_with (n == 1) character s

-- a character is put; one of width 0 joins another as a mark
unfoldable pub put : ℕ → Console → Console
put character s = if is_c1 character then forgotten s else put_by_width (width character) character s

-- characters are put one after another
abbrev pub all_put : List ℕ → Console → Console
all_put characters s = fold (λ t character. put character t) s characters

-- the character of a byte in the set in use
abbrev pub character_for : Console → ℕ → ℕ
character_for s byte = character_of (set_in_use s.sets) byte

-- the same character n times
abbrev pub put_times : ℕ → ℕ → Console → Console
put_times zero character s = s
put_times (suc n) character s = put character (put_times n character s)

-- REP: the last character again, n times; nothing where there is none (ECMA-48 8.3.103)
abbrev pub repeated : ℕ → Option ℕ → Console → Console
repeated n None s = s
repeated n (Some character) s = put_times n character s

abbrev pub last_repeated : ℕ → Console → Console
last_repeated n s = repeated n s.last s
