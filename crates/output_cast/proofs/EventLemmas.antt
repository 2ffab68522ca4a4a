-- Events chunk by chunk, and their texts.
use Rattle.std.proofs.Common.{◌≡◌, ℕ, suc, ◌+◌, ◌<◌, ◌≤◌, nat_lt, if◌then◌else◌, sum_by, ◌==◌, Bool, true, false, List, [], ◌∷◌, ◌++◌, length, take, drop, get_or, refl, sym, ap, ap₂, ◌∙◌, append-nil, append_assoc, arith}
use Rattle.std.specs.List.{flat_map}
use Rattle.std.proofs.Math.Seq.{drop-cons}
use Rattle.std.proofs.lemmas.Grind.{flat_map-append}
use Rattle.std.proofs.lemmas.List.{drop_all, take_all, take_more}
use Rattle.std.proofs.lemmas.List.Sums.{sum_by_more}
use Rattle.characters.proofs.Texts.{decodes_in_parts}
use Rattle.characters.specs.declared.utf8.Reading.{Reading}
use Rattle.characters.specs.declared.utf8.Reading.TheVariants.{Character, More, Broken}
use Rattle.characters.specs.Utf8.{Decoded, begins, begun, decoded, decoded_on, gone_on, nothing, reading, replacement}
use Rattle.tape_core.specs.declared.chunk.Chunk.{Chunk}
use Rattle.tape_core.specs.Due.{due_time, play_length}
use Rattle.tape_core.specs.Tape.{Tape, body}
use Rattle.output_cast.specs.Cast.{event_closing, event_line, event_opening}
use Rattle.output_cast.specs.Json.{json_character, json_text}
use Rattle.output_cast.specs.Events.{Event, characters_of, event_of, events, events_from, left_text, read_behind}

-- what is decoded with characters in front
abbrev behind : List ℕ → Decoded → Decoded
behind front d = record { characters = front ++ d.characters; pending = d.pending }

abbrev begun_by : Bool → Bool → List ℕ → ℕ → Decoded
begun_by low starts characters byte =
    if low then record { characters = characters ++ byte ∷ []; pending = [] }
    else (if starts then record { characters = characters; pending = byte ∷ [] }
    else record { characters = characters ++ replacement ∷ []; pending = [] })

ends_with : (front text : List ℕ) (c : ℕ)
    → record { characters = (front ++ text) ++ c ∷ []; pending = [] } ≡ behind front (record { characters = text ++ c ∷ []; pending = [] })
ends_with front text c = ap (λ t. record { characters = t; pending = [] }) (append_assoc front text (c ∷ []))

begun_by_behind : (low starts : Bool) (front text : List ℕ) (byte : ℕ)
    → begun_by low starts (front ++ text) byte ≡ behind front (begun_by low starts text byte)
begun_by_behind true starts front text byte = ends_with front text byte
begun_by_behind false true front text byte = refl
begun_by_behind false false front text byte = ends_with front text replacement

begun_behind : (front text : List ℕ) (byte : ℕ) → begun (front ++ text) byte ≡ behind front (begun text byte)
begun_behind front text byte = begun_by_behind (nat_lt byte 0x80) (begins byte) front text byte

gone_behind : (r : Reading) (front text pending : List ℕ) (byte : ℕ)
    → gone_on r (front ++ text) pending byte ≡ behind front (gone_on r text pending byte)
gone_behind (Character c) front text pending byte = ends_with front text c
gone_behind More front text pending byte = refl
gone_behind Broken front text pending byte =
    ap (λ t. begun t byte) (append_assoc front text (replacement ∷ [])) ∙ begun_behind front (text ++ replacement ∷ []) byte

on_by : (none : Bool) (front text pending : List ℕ) (byte : ℕ)
    → (if none then begun (front ++ text) byte else gone_on (reading pending byte) (front ++ text) pending byte)
    ≡ behind front (if none then begun text byte else gone_on (reading pending byte) text pending byte)
on_by true front text pending byte = begun_behind front text byte
on_by false front text pending byte = gone_behind (reading pending byte) front text pending byte

on_behind : (front : List ℕ) (d : Decoded) (byte : ℕ) → decoded_on (behind front d) byte ≡ behind front (decoded_on d byte)
on_behind front d byte = on_by (length d.pending == 0) front d.characters d.pending byte

decoded_behind : (front : List ℕ) (d : Decoded) (bytes : List ℕ) → decoded (behind front d) bytes ≡ behind front (decoded d bytes)
unfolding decoded
decoded_behind front d [] = refl
decoded_behind front d (byte ∷ bytes) =
    ap (λ x. decoded x bytes) (on_behind front d byte) ∙ decoded_behind front (decoded_on d byte) bytes

-- bytes behind others are read as behind what those leave
read_on : (pending first second : List ℕ)
    → read_behind pending (first ++ second)
    ≡ behind (read_behind pending first).characters (read_behind (read_behind pending first).pending second)
read_on pending first second =
    let d = read_behind pending first in
    decodes_in_parts (record { characters = []; pending = pending }) first second
    ∙ ap (λ t. decoded (record { characters = t; pending = d.pending }) second) (sym (append-nil d.characters))
    ∙ decoded_behind d.characters (record { characters = []; pending = d.pending }) second

-- ---- the texts of events

abbrev texts : List Event → List ℕ
texts list = flat_map (λ event. event.text) list

event_text : (moment : ℕ) (text : List ℕ) → texts (event_of moment text) ≡ text
event_text moment [] = refl
event_text moment (c ∷ rest) = append-nil (c ∷ rest)

abbrev whole : Decoded → List ℕ
whole d = d.characters ++ left_text d.pending

texts_from : (moment : ℕ) (pending : List ℕ) (chunks : List Chunk)
    → texts (events_from moment pending chunks) ≡ whole (read_behind pending (body chunks))
unfolding events_from decoded
texts_from moment pending [] = event_text moment (left_text pending)
texts_from moment pending (chunk ∷ rest) =
    let d = read_behind pending chunk.bytes in
    let more = read_behind d.pending (body rest) in
    flat_map-append (λ (event : Event). event.text) (event_of (moment + chunk.delay) d.characters) (events_from (moment + chunk.delay) d.pending rest)
    ∙ ap₂ (λ a b. a ++ b) (event_text (moment + chunk.delay) d.characters) (texts_from (moment + chunk.delay) d.pending rest)
    ∙ sym (append_assoc d.characters more.characters (left_text more.pending))
    ∙ ap whole (sym (read_on pending chunk.bytes (body rest)))

pub texts_are : (tape : Tape) → texts (events tape) ≡ characters_of (body tape.chunks)
texts_are tape = texts_from 0 [] tape.chunks

-- ---- chunk by chunk

-- the lines of the events of the chunks from one on
abbrev pub lines_from : List Chunk → ℕ → List ℕ → List ℕ
lines_from chunks n pending = flat_map event_line (events_from (sum_by (λ c. c.delay) (take n chunks)) pending (drop n chunks))

-- one chunk more
pub lines_more : (chunks : List Chunk) (n : ℕ) (chunk : Chunk) (pending : List ℕ) → n < length chunks → get_or chunks n chunk ≡ chunk
    → lines_from chunks n pending
    ≡ flat_map event_line (event_of (due_time chunks n) (read_behind pending chunk.bytes).characters)
    ++ lines_from chunks (n + 1) (read_behind pending chunk.bytes).pending
unfolding events_from
lines_more chunks n chunk pending below is =
    let at = sum_by (λ c. c.delay) (take n chunks) in
    let d = read_behind pending chunk.bytes in
    let next : suc n ≡ n + 1 = omega arith in
    let rest : drop n chunks ≡ chunk ∷ drop (n + 1) chunks =
    drop-cons chunks n chunk below ∙ ap₂ (λ c m. c ∷ drop m chunks) is next in
    let later : at + chunk.delay ≡ due_time chunks n =
    ap (λ (c : Chunk). at + c.delay) (sym is) ∙ sym (sum_by_more (λ (c : Chunk). c.delay) chunks n chunk below) in
    ap (λ r. flat_map event_line (events_from at pending r)) rest
    ∙ ap (λ m. flat_map event_line (event_of m d.characters ++ events_from m d.pending (drop (n + 1) chunks))) later
    ∙ flat_map-append event_line (event_of (due_time chunks n) d.characters)
    (events_from (due_time chunks n) d.pending (drop (n + 1) chunks))

-- none more
pub lines_left : (chunks : List Chunk) (n : ℕ) (pending : List ℕ) → length chunks ≤ n
    → lines_from chunks n pending ≡ flat_map event_line (event_of (play_length chunks) (left_text pending))
unfolding events_from
lines_left chunks n pending past =
    ap₂ (λ m rest. flat_map event_line (events_from m pending rest))
    (ap (sum_by (λ c. c.delay)) (take_all n chunks past)) (drop_all n chunks past)

-- the line of what is left
pub left_line : (moment : ℕ) (pending : List ℕ) → 0 < length pending
    → event_opening moment ++ json_character replacement ++ event_closing ≡ flat_map event_line (event_of moment (left_text pending))
unfolding json_text
left_line moment [] some = absurd (omega (arith, some))
left_line moment (byte ∷ rest) some =
    let text = json_character replacement in
    ap (λ t. event_opening moment ++ t ++ event_closing) (sym (append-nil text))
    ∙ sym (append-nil (event_opening moment ++ (text ++ []) ++ event_closing))

-- all lines
pub lines_all : (chunks : List Chunk) → lines_from chunks 0 [] ≡ flat_map event_line (events_from 0 [] chunks)
lines_all chunks = refl

-- ---- byte by byte

pub read_none : (pending : List ℕ) → read_behind pending [] ≡ record { characters = []; pending = pending }
unfolding decoded
read_none pending = refl

read_one : (d : Decoded) (byte : ℕ) → decoded d (byte ∷ []) ≡ decoded_on d byte
unfolding decoded
read_one d byte = refl

pub read_more : (pending bytes : List ℕ) (n e : ℕ) → n < length bytes
    → read_behind pending (take (n + 1) bytes) ≡ decoded_on (read_behind pending (take n bytes)) (get_or bytes n e)
read_more pending bytes n e below =
    let byte = get_or bytes n e in
    ap (read_behind pending) (take_more bytes n e below)
    ∙ decodes_in_parts (record { characters = []; pending = pending }) (take n bytes) (byte ∷ [])
    ∙ read_one (read_behind pending (take n bytes)) byte
