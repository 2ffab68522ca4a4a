-- The recorded output as events (doc/asciicast-v2.md of asciinema): the characters of each chunk, over the cuts of chunks.
use Rattle.std.specs.Prelude.{ℕ, ◌+◌, List, [], ◌∷◌, ◌++◌}
use Rattle.characters.specs.Utf8.{Decoded, decoded, nothing, replacement}
use Rattle.tape_core.specs.declared.chunk.Chunk.{Chunk}
use Rattle.tape_core.specs.Tape.{Tape}

-- when it comes, in microseconds, and its characters
pub record Event : Type 0 where
  pub moment : ℕ
  pub text : List ℕ

-- what bytes come to behind those that are pending: characters, and what is pending then
abbrev pub read_behind : List ℕ → List ℕ → Decoded
read_behind pending bytes = decoded (record { characters = []; pending = pending }) bytes

-- a text gives an event, and none gives none (ours)
abbrev pub event_of : ℕ → List ℕ → List Event
event_of moment [] = []
event_of moment (c ∷ rest) = record { moment = moment; text = c ∷ rest } ∷ []

-- bytes that are pending at the end are one U+FFFD (Unicode core specification 3.9)
abbrev pub left_text : List ℕ → List ℕ
left_text [] = []
left_text (byte ∷ rest) = replacement ∷ []

-- the events of chunks behind this moment and these pending bytes: those of a character that a chunk leaves unfinished go
-- to the next event, and what is left at the end gives one more (ours)
unfoldable pub events_from : ℕ → List ℕ → List Chunk → List Event
events_from moment pending [] = event_of moment (left_text pending)
events_from moment pending (chunk ∷ rest) =
    event_of (moment + chunk.delay) (read_behind pending chunk.bytes).characters
    ++ events_from (moment + chunk.delay) (read_behind pending chunk.bytes).pending rest

-- the events of a recording
abbrev pub events : Tape → List Event
events tape = events_from 0 [] tape.chunks

-- bytes as characters: malformed parts are U+FFFD, what is left at the end too (Unicode core specification 3.9)
abbrev pub characters_of : List ℕ → List ℕ
characters_of bytes = (decoded nothing bytes).characters ++ left_text (decoded nothing bytes).pending
