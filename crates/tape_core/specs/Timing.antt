-- The timing file, line by line: what a line says, and which fault it has.
use Rattle.std.specs.Prelude.{◌≡◌, ℕ, ◌+◌, ◌<◌, ◌≤◌, ◌⊎◌, Bool, false, true, ◌||◌, ◌&&◌, List, [], ◌∷◌, ◌++◌, length, Option, Some, None, Result, Ok, Err, ◌==◌, nat_lt, nat_le, if◌then◌else◌, sum_by}
use Rattle.std.specs.List.{AllPass, filter_map}
use Rattle.std.specs.Option.{option_map, option_or}
use Rattle.tape_core.specs.declared.timing.Entry.{Entry}
use Rattle.tape_core.specs.declared.timing.EntryFault.{EntryFault}
use Rattle.tape_core.specs.declared.timing.EntryFault.TheVariants as line
use Rattle.tape_core.specs.declared.fault.Fault.{Fault}
use Rattle.tape_core.specs.declared.fault.Fault.TheVariants as fault
use Rattle.tape_core.specs.Seconds.{IsSeconds, micros_of}
use Rattle.tape_core.specs.Text.{NumberText, fields, is_blank, lines_of, number_of}
use Rattle.tape_core.specs.Tape.{longest_delay, longest_chunk, longest_body, most_chunks}

abbrev pub is_letter : ℕ → Bool
is_letter b = (nat_le 65 b && nat_le b 90) || (nat_le 97 b && nat_le b 122)

-- The text is a delay: decimal seconds, or `-` and decimal seconds, which is zero. script(1); `-` is ours.
abbrev pub DelayText : List ℕ → ℕ → Type 0
DelayText text delay =
    IsSeconds text delay
    ⊎ ((seconds : List ℕ) × (us : ℕ) × (text ≡ 45 ∷ seconds) × IsSeconds seconds us × (delay ≡ 0))

-- A line of the classic timing format: blanks, a delay, at least one blank, a count, blanks. script(1); outer blanks:
-- ours.
pub record TimingLine (text : List ℕ) (delay count : ℕ) : Type 0 where
  pub before : List ℕ
  pub first : List ℕ
  pub between : List ℕ
  pub second : List ℕ
  pub after : List ℕ
  pub spelled : text ≡ before ++ first ++ between ++ second ++ after
  pub blank_before : AllPass is_blank before
  pub blank_between : AllPass is_blank between
  pub blank_after : AllPass is_blank after
  pub apart : 0 < length between
  pub delayed : DelayText first delay
  pub counted : NumberText second count

-- The delay that a field writes, in microseconds.
abbrev pub delay_of : List ℕ → Option ℕ
delay_of [] = None
delay_of (b ∷ bs) = if b == 45 then option_map (λ us. 0) (micros_of bs) else micros_of (b ∷ bs)

-- The count where one field is left, and no other.
abbrev pub only_count : List (List ℕ) → Option ℕ
only_count [] = None
only_count (text ∷ []) = number_of text
only_count (text ∷ more ∷ rest) = None

abbrev pub begins_with_letter : List ℕ → Bool
begins_with_letter [] = false
begins_with_letter (b ∷ bs) = is_letter b

-- The faults of a line, in the order in which they are tried: multi-stream, bad delay, bad count, delay too large,
-- chunk too long (ours).
abbrev pub within_limits : ℕ → ℕ → Result (Option Entry) EntryFault
within_limits delay count =
    if nat_lt longest_delay delay then Err line.DelayTooLarge
    else if nat_lt longest_chunk count then Err line.ChunkTooLong
    else Ok (Some (record { delay = delay; count = count }))

abbrev pub counted : ℕ → Option ℕ → Result (Option Entry) EntryFault
counted delay None = Err line.BadCount
counted delay (Some count) = within_limits delay count

abbrev pub delayed : Option ℕ → Option ℕ → Result (Option Entry) EntryFault
delayed None count = Err line.BadDelay
delayed (Some delay) count = counted delay count

abbrev pub entry_of_fields : List (List ℕ) → Result (Option Entry) EntryFault
entry_of_fields [] = Ok None
entry_of_fields (first ∷ rest) =
    if begins_with_letter first then Err line.MultiStream else delayed (delay_of first) (only_count rest)

-- What a line says: nothing where it is blank, an entry, or its first fault.
abbrev pub entry_of : List ℕ → Result (Option Entry) EntryFault
entry_of text = entry_of_fields (fields text)

-- The entries of the lines that have one, in order.
abbrev pub entry_in : Result (Option Entry) EntryFault → Option Entry
entry_in (Ok entry) = entry
entry_in (Err f) = None

abbrev pub entries_of : List (List ℕ) → List Entry
entries_of lines = filter_map (λ text. entry_in (entry_of text)) lines

abbrev pub counted_bytes : List Entry → ℕ
counted_bytes entries = sum_by (λ e. e.count) entries

-- A line's fault with the line's number, counted from 1.
abbrev pub at_line : EntryFault → ℕ → Fault
at_line line.MultiStream n = fault.MultiStream n
at_line line.BadDelay n = fault.BadDelay n
at_line line.BadCount n = fault.BadCount n
at_line line.DelayTooLarge n = fault.DelayTooLarge n
at_line line.ChunkTooLong n = fault.ChunkTooLong n

-- The fault of line n, after so many entries that count so many bytes: its own, or one entry or one byte too many
-- (ours).
abbrev pub fault_of_line : ℕ → ℕ → ℕ → Result (Option Entry) EntryFault → Option Fault
fault_of_line n entries bytes (Err f) = Some (at_line f n)
fault_of_line n entries bytes (Ok None) = None
fault_of_line n entries bytes (Ok (Some e)) =
    if nat_le most_chunks entries then Some (fault.TooManyChunks n)
    else if nat_lt longest_body (bytes + e.count) then Some (fault.TooManyBytes n)
    else None

-- The fault of a line that stands after the others: blank lines count in its number, and not as entries.
abbrev pub fault_after : List (List ℕ) → List ℕ → Option Fault
fault_after before text =
    fault_of_line (length before + 1) (length (entries_of before)) (counted_bytes (entries_of before)) (entry_of text)

-- The fault of the first line that has one, where the lines stand after those before.
abbrev pub first_fault : List (List ℕ) → List (List ℕ) → Option Fault
first_fault before [] = None
first_fault before (text ∷ rest) = option_or (fault_after before text) (first_fault (before ++ text ∷ []) rest)

abbrev pub timing_fault : List ℕ → Option Fault
timing_fault timing = first_fault [] (lines_of timing)

-- The limits of one entry (ours).
pub record IsWithin (entry : Entry) : Type 0 where
  pub delay : entry.delay ≤ longest_delay
  pub count : entry.count ≤ longest_chunk

-- What each fault of a line means: its first field begins with a letter; that field is no delay; it is one, and what
-- stands behind it is not just a count; the line is one of the format, and its delay or, where that is within the
-- limit, its count is too large. script(1); the limits are ours.
abbrev pub IsFaulty : List ℕ → EntryFault → Type 0
IsFaulty text line.MultiStream =
    (first : List ℕ) × (rest : List (List ℕ)) × (fields text ≡ first ∷ rest) × (begins_with_letter first ≡ true)
IsFaulty text line.BadDelay =
    (first : List ℕ) × (rest : List (List ℕ)) × (fields text ≡ first ∷ rest) × (begins_with_letter first ≡ false)
    × ((delay : ℕ) → DelayText first delay → ⊥)
IsFaulty text line.BadCount =
    (first : List ℕ) × (rest : List (List ℕ)) × (delay : ℕ) × (fields text ≡ first ∷ rest) × DelayText first delay
    × ((second : List ℕ) (count : ℕ) → rest ≡ second ∷ [] → NumberText second count → ⊥)
IsFaulty text line.DelayTooLarge =
    (delay : ℕ) × (count : ℕ) × TimingLine text delay count × (longest_delay < delay)
IsFaulty text line.ChunkTooLong =
    (delay : ℕ) × (count : ℕ) × TimingLine text delay count × (delay ≤ longest_delay) × (longest_chunk < count)
