-- Which lines of the screen each chunk changes, and how that is written (ours).
use Rattle.std.specs.Prelude.{ℕ, List, Option}
use Rattle.std.specs.Fmt.{decimal}
use Rattle.tape_core.specs.Tape.{Tape}
use Rattle.chunk_walk.specs.ChangeLine.{change_line}
use Rattle.vt_term.specs.declared.profile.Profile.{Profile}
use Rattle.screen_rows.specs.SameRows.{changed_lines}
use Rattle.screen_print.specs.Stills.{Still}
use Rattle.screen_print.specs.Walk.{walk_text}

-- what is written of one chunk, compared before and after it alone
abbrev pub change_text : ℕ → ℕ → Still → Still → List ℕ
change_text index due before after =
    change_line decimal index due (changed_lines before.rows after.rows)

-- the change lines
unfoldable pub change_lines : Profile → Tape → Option ℕ → ℕ → List ℕ
change_lines profile tape from to = walk_text change_text profile tape from to
