-- What holds of every pair of files: statements of the crate's laws.
use Rattle.std.specs.Prelude.{◌≡◌, List, ℕ, Ok, Some}
use Rattle.tape_core.specs.Reading.{reads}
use Rattle.tape_core.specs.Tape.{Tape, fits}
use Rattle.tape_core.specs.Text.{fields}
use Rattle.tape_core.specs.Written.{script_text, timing_text}
use Rattle.tape_mend.specs.declared.line.Line.{Line}
use Rattle.tape_mend.specs.declared.opening.Header.{Header}
use Rattle.tape_mend.specs.declared.opening.Header.TheVariants.{Kept}
use Rattle.tape_mend.specs.Mended.{mended, nothing_lost}
use Rattle.tape_mend.specs.Streams.{StreamLine, stream_line}

-- What is mended fits the limits, and, written, it is read again without a fault as that recording.
pub record MendedReadsBack (how : Header) (script timing : List ℕ) : Type 0 where
  pub fitting : fits (mended how script timing).tape
  pub read : reads (script_text (mended how script timing).tape) (timing_text (mended how script timing).tape)
      (mended how script timing).tape

-- What is read without a fault is mended as it is, and nothing is lost of it.
abbrev pub WholeStays : Type 0
WholeStays = (script timing : List ℕ) (tape : Tape) → reads script timing tape
    → mended Kept script timing ≡ record { tape = tape; losses = nothing_lost }

-- A line of the multi-stream format is read as what it says, and no other line is.
pub record AStreamLineIsRead : Type 0 where
  pub read : (text : List ℕ) (said : Line) → StreamLine text said → stream_line (fields text) ≡ Ok (Some said)
  pub alone : (text : List ℕ) (said : Line) → stream_line (fields text) ≡ Ok (Some said) → StreamLine text said
