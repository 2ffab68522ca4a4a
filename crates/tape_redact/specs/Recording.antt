-- A recording whose bytes are cut from another script, and one without a text (ours).
use Rattle.std.specs.Prelude.{ℕ, ◌&&◌, ◌==◌, Bool, List, [], ◌∷◌, drop, length, not, take, if◌then◌else◌}
use Rattle.std.specs.List.{list_all}
use Rattle.tape_core.specs.declared.chunk.Chunk.{Chunk}
use Rattle.tape_core.specs.Tape.{Tape, body}
use Rattle.tape_core.specs.Written.{script_text}
use Rattle.tape_redact.specs.Redacted.{occurrences, redacted}

-- the chunks with other bytes, cut from these by their lengths
abbrev pub cut : List Chunk → List ℕ → List Chunk
cut [] bytes = []
cut (c ∷ cs) bytes = record c { bytes = take (length c.bytes) bytes } ∷ cut cs (drop (length c.bytes) bytes)

-- the recording with the bytes of another script
abbrev pub recut : Tape → List ℕ → Tape
recut tape script = record {
  header = take (length tape.header) script;
  chunks = cut tape.chunks (drop (length tape.header) script);
  trailer = drop (length (body tape.chunks)) (drop (length tape.header) script);
}

-- neither LF, which ends the header, nor *, which is written over a text
abbrev pub is_hidable : ℕ → Bool
is_hidable byte = not (byte == 10) && not (byte == 42)

-- whether a text can be taken out of a recording: it has a byte, and each is such a one
unfoldable pub can_be_hidden : List ℕ → Bool
can_be_hidden text = not (length text == 0) && list_all is_hidable text

-- the typescript of a recording without a text: as it is, where the text can't be taken out
abbrev pub script_without : List ℕ → Tape → List ℕ
script_without text tape =
    if can_be_hidden text then redacted text (script_text tape) else script_text tape

-- the recording without it
abbrev pub without : List ℕ → Tape → Tape
without text tape = recut tape (script_without text tape)

-- how many occurrences are taken out
abbrev pub taken_out : List ℕ → Tape → ℕ
taken_out text tape = if can_be_hidden text then occurrences text (script_text tape) else 0
