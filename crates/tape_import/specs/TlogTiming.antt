-- What the timing of a message of tlog tells: which of its characters and bytes came, or were typed, when. tlog's
-- message format.
use Rattle.std.specs.Prelude.{ℕ, zero, suc, ◌+◌, ◌*◌, Bool, true, false, ◌&&◌, List, [], ◌∷◌, length, take, drop, min, nat_le, ◌==◌, Option, Some, None, if◌then◌else◌}
use Rattle.std.specs.List.{prefix_len}
use Rattle.std.specs.Option.{option_and_then, option_map}
use Rattle.std.specs.Str.Parse.{digits_value}
use Rattle.json_bytes.specs.Marks.{begins}
use Rattle.json_bytes.specs.Numbers.{digits_len, digits_of, past_digits}
use Rattle.json_bytes.specs.Values.{Read, as_part}
use Rattle.tape_core.specs.Seconds.{last_moment}
use Rattle.tape_import.specs.Asciicast.{sided}
use Rattle.tape_import.specs.declared.event.Event.{Event}
use Rattle.tape_import.specs.declared.event.What.{What}
use Rattle.tape_import.specs.declared.event.What.TheVariants as what
use Rattle.tape_import.specs.declared.tlog_timing.Word.{Word}
use Rattle.tape_import.specs.declared.tlog_timing.Word.TheVariants as word

-- What was typed, or what was shown, in a message: characters, and bytes that are none.
pub record Stream : Type 0 where
  pub text : List ℕ
  pub bytes : List ℕ

-- A character is a byte with the bytes from 128 to 191 behind it, whatever they are (ours). How many bytes the first so
-- many characters of a text have, where it has so many.
abbrev pub goes_on : ℕ → Bool
goes_on b = nat_le 128 b && nat_le b 191

abbrev pub characters_len : ℕ → List ℕ → Option ℕ
characters_len zero text = Some 0
characters_len (suc count) [] = None
characters_len (suc count) (b ∷ bs) =
    let more = prefix_len goes_on bs in
    option_map (λ len. 1 + more + len) (characters_len count (drop more bs))

-- What is taken off a stream, and what is left of it: the first so many characters of its text; or, where so many of
-- them are skipped, the first so many of its bytes. None where there are fewer.
abbrev pub Taken : Type 0
Taken = Option (List ℕ × Stream)

abbrev pub text_taken : ℕ → Stream → Taken
text_taken count stream =
    option_map (λ len. (take len stream.text, record stream { text = drop len stream.text }))
    (characters_len count stream.text)

abbrev pub bytes_taken : ℕ → ℕ → Stream → Taken
bytes_taken skipped count stream =
    if nat_le count (length stream.bytes)
    then option_map (λ len. (
      take count stream.bytes,
      record { text = drop len stream.text; bytes = drop count stream.bytes },
    ))
    (characters_len skipped stream.text)
    else None

-- Digits at the front, one or more, and what stands behind them; twice, with a byte between.
abbrev pub digits_at : List ℕ → Read (List ℕ)
digits_at text = if digits_len text == 0 then None else Some (digits_of text, past_digits text)

abbrev pub two_at : ℕ → List ℕ → Read (List ℕ × List ℕ)
two_at byte text =
    option_and_then (λ first.
    if begins byte first.1 then as_part (λ second. (first.0, second)) (digits_at (drop 1 first.1)) else None)
    (digits_at text)

-- Their number; one above 10^18 counts as it, which is more than a message has bytes, or a recording milliseconds
-- (ours).
abbrev pub counted : List ℕ → ℕ
counted digits = min (digits_value 10 digits) last_moment

abbrev pub both_counted : List ℕ × List ℕ → ℕ × ℕ
both_counted digits = (counted digits.0, counted digits.1)

-- An item of a timing, behind its sign: `+N`, so many milliseconds pass; `<N` and `>N`, so many characters of what was
-- typed and of what was shown; `[R/B` and `]R/B`, so many bytes of these in place of so many characters; `=CxL`, the
-- size of the terminal.
abbrev pub word_behind : ℕ → List ℕ → Read Word
word_behind sign text =
    if sign == 43 then as_part word.Pass (as_part counted (digits_at text))
    else if sign == 60 then as_part word.Typed (as_part counted (digits_at text))
    else if sign == 62 then as_part word.Shown (as_part counted (digits_at text))
    else if sign == 91 then as_part (λ n. word.TypedBytes n.0 n.1) (as_part both_counted (two_at 47 text))
    else if sign == 93 then as_part (λ n. word.ShownBytes n.0 n.1) (as_part both_counted (two_at 47 text))
    else if sign == 61 then as_part word.Window (as_part (λ n. sided (Some n)) (two_at 120 text))
    else None

-- How far a timing has come: the moment, in microseconds, and what is left of what was typed and of what was shown.
pub record Progress : Type 0 where
  pub moment : ℕ
  pub typed : Stream
  pub shown : Stream

-- So many milliseconds later. No moment is above the last one (ours).
abbrev pub later : ℕ → ℕ → ℕ
later moment ms = min (moment + ms * 1000) last_moment

-- What an item tells of the recording, if anything, and how far the timing has come behind it.
pub record Step : Type 0 where
  pub what : Option What
  pub behind : Progress

abbrev pub behind_typed : Progress → Stream → Step
behind_typed so_far rest = record { what = Some what.Input; behind = record so_far { typed = rest } }

abbrev pub behind_shown : Progress → List ℕ → Stream → Step
behind_shown so_far bytes rest =
    record { what = Some (what.Output bytes); behind = record so_far { shown = rest } }

abbrev pub with_typed : Progress → Taken → Option Step
with_typed so_far taken = option_map (λ t. behind_typed so_far t.1) taken

abbrev pub with_shown : Progress → Taken → Option Step
with_shown so_far taken = option_map (λ t. behind_shown so_far t.0 t.1) taken

abbrev pub step_by : Progress → Word → Option Step
step_by so_far (word.Pass ms) =
    Some (record { what = None; behind = record so_far { moment = later so_far.moment ms } })
step_by so_far (word.Typed count) = with_typed so_far (text_taken count so_far.typed)
step_by so_far (word.Shown count) = with_shown so_far (text_taken count so_far.shown)
step_by so_far (word.TypedBytes skipped count) = with_typed so_far (bytes_taken skipped count so_far.typed)
step_by so_far (word.ShownBytes skipped count) = with_shown so_far (bytes_taken skipped count so_far.shown)
step_by so_far (word.Window size) = Some (record { what = Some (what.Resize size); behind = so_far })

abbrev pub step_at : Progress → ℕ → List ℕ → Read Step
step_at so_far sign text =
    option_and_then (λ item. option_map (λ step. (step, item.1)) (step_by so_far item.0)) (word_behind sign text)

-- What a timing tells, in order, each at its moment, up to what is no item, or tells of more than there is; and whether
-- there is nothing of that kind.
pub record Story : Type 0 where
  pub events : List Event
  pub whole : Bool

abbrev pub with_event : Step → Option What → Story → Story
with_event step None story = story
with_event step (Some found) story =
    record story { events = record { time = step.behind.moment; what = found } ∷ story.events }

abbrev pub go_on : (Progress → List ℕ → Story) → Read Step → Story
go_on more None = record { events = []; whole = false }
go_on more (Some read) = with_event read.0 read.0.what (more read.0.behind read.1)

-- There are no more items than bytes.
abbrev pub items : ℕ → Progress → List ℕ → Story
items most so_far [] = record { events = []; whole = true }
items zero so_far (sign ∷ text) = record { events = []; whole = false }
items (suc most) so_far (sign ∷ text) = go_on (items most) (step_at so_far sign text)
