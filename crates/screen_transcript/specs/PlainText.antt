-- The law of plain text: what went in as lines comes out as lines.
use Rattle.std.specs.Prelude.{◌≡◌, ℕ, List, ◌∷◌, All, None, length, map}
use Rattle.screen_transcript.specs.Transcribed.{leaving_rows, standing_rows}
use Rattle.tape_core.specs.Due.{first}
use Rattle.tape_core.specs.Tape.{Tape}
use Rattle.transcripts.specs.PlainText.{IsPlainLine, with_line_ends, without_spaces}
use Rattle.transcripts.specs.Transcript.{text_of, transcript}
use Rattle.vt_screen.specs.Limits.{narrow_columns}
use Rattle.vt_term.specs.declared.profile.Profile.{Profile}

-- where a body is such lines, its transcript is the lines without the spaces at their ends, blank ones at the end left out
abbrev pub PlainTextComesOut : Type 0
PlainTextComesOut =
    (profile : Profile) (line : List ℕ) (rest : List (List ℕ)) (tape : Tape) → IsPlainLine narrow_columns line
    → All (IsPlainLine narrow_columns) rest
    → first tape.chunks (length tape.chunks) ≡ with_line_ends line rest
    → transcript leaving_rows standing_rows profile tape None None ≡ text_of (map without_spaces (line ∷ rest))
