-- The messages of tlog, a JSON text in each line. tlog's message format.
use Rattle.std.specs.Prelude.{ℕ, Bool, false, true, ◌&&◌, ◌||◌, List, [], ◌∷◌, codes, is_some, length, nat_le, ◌==◌, Option, Some, None, if◌then◌else◌}
use Rattle.std.specs.Option.{option_and_then, option_map}
use Rattle.json_bytes.specs.Arrays.{bytes_of}
use Rattle.json_bytes.specs.Numbers.{plain_digits}
use Rattle.json_bytes.specs.Values.{Json, json_of, member_of, number_of, string_of}
use Rattle.tape_core.specs.Text as digits
use Rattle.tape_import.specs.Asciicast.{date_of, term_of}
use Rattle.tape_import.specs.TlogTiming.{Progress, Story, Stream, items, later}
use Rattle.tape_import.specs.declared.tlog_message.Head.{Head}

-- A message: what it tells of its recording; its moment, in milliseconds; and what was typed and shown from then on, by
-- its timing.
pub record Message : Type 0 where
  pub head : Head
  pub pos : ℕ
  pub timing : List ℕ
  pub typed : Stream
  pub shown : Stream

-- The moments of its timing are counted from its own.
abbrev pub at_front : Message → Progress
at_front message = record { moment = later 0 message.pos; typed = message.typed; shown = message.shown }

-- What its timing tells.
abbrev pub story_of : Message → Story
story_of message = items (length message.timing) (at_front message) message.timing

-- The version of the format is 1 or 2, with a point and digits behind it, or nothing.
abbrev pub is_minor : List ℕ → Bool
is_minor [] = true
is_minor (b ∷ bs) = b == 46 && is_some (digits.number_of bs)

abbrev pub is_version : List ℕ → Bool
is_version [] = false
is_version (b ∷ bs) = (b == 49 || b == 50) && is_minor bs

abbrev pub is_versioned : Option (List ℕ) → Bool
is_versioned None = false
is_versioned (Some text) = is_version text

-- A number of at most 18 digits alone (ours).
abbrev pub short_number : List ℕ → Option ℕ
short_number text = if nat_le (length text) 18 then digits.number_of text else None

abbrev pub count_of : Option Json → Option ℕ
count_of value = option_and_then short_number (option_and_then plain_digits (number_of value))

-- A text and bytes that may be left out, and are empty then.
abbrev pub given_text : Option Json → Option (List ℕ)
given_text None = Some []
given_text (Some value) = string_of (Some value)

abbrev pub given_bytes : Option Json → Option (List ℕ)
given_bytes None = Some []
given_bytes (Some value) = bytes_of (Some value)

abbrev pub stream_by : Option (List ℕ) → Option (List ℕ) → Option Stream
stream_by text bytes =
    option_and_then (λ t. option_map (λ b. record { text = t; bytes = b }) bytes) text

-- What a message is made of, by what its members are: its number, the recording's name, the terminal's, and the second;
-- its moment; its timing; and what was typed and shown.
abbrev pub head_of : (List ℕ → Option Json) → Option Head
head_of told =
    option_map (λ n. record {
      number = n;
      recording = string_of (told (codes "rec"));
      term = term_of (told (codes "term"));
      date = date_of (told (codes "time"));
    }) (count_of (told (codes "id")))

abbrev pub typed_of : (List ℕ → Option Json) → Option Stream
typed_of told = stream_by (given_text (told (codes "in_txt"))) (given_bytes (told (codes "in_bin")))

abbrev pub shown_of : (List ℕ → Option Json) → Option Stream
shown_of told = stream_by (given_text (told (codes "out_txt"))) (given_bytes (told (codes "out_bin")))

abbrev pub message_by : Option Head → Option ℕ → Option (List ℕ) → Option Stream → Option Stream → Option Message
message_by head pos timing typed shown =
    option_and_then (λ h. option_and_then (λ p. option_and_then (λ t. option_and_then (λ i.
    option_map (λ o. record { head = h; pos = p; timing = t; typed = i; shown = o })
    shown) typed) timing) pos) head

abbrev pub message_told : (List ℕ → Option Json) → Option Message
message_told told =
    if is_versioned (string_of (told (codes "ver")))
    then message_by (head_of told) (count_of (told (codes "pos"))) (string_of (told (codes "timing"))) (typed_of told)
    (shown_of told)
    else None

-- Its timing is of items alone, and tells of no more than there is.
abbrev pub if_whole : Option Message → Option Message
if_whole None = None
if_whole (Some message) = if (story_of message).whole then Some message else None

-- The message that a line is.
abbrev pub message_of : List ℕ → Option Message
message_of line = if_whole (message_told (λ name. member_of name (json_of line)))
