-- The events of a recording, and the chunks that they are: in order, and each due at its moment.
use Rattle.std.proofs.Common.{◌≡◌, ℕ, zero, suc, ◌+◌, ◌-◌, ◌*◌, ◌<◌, ◌≤◌, All, List, [], ◌∷◌, ◌++◌, encode_utf8_all, length, take, get_or, sum_by, refl, ap, sym, ◌∙◌, arith}
use Rattle.std.specs.List.{flat_map}
use Rattle.std.proofs.lemmas.List.Elements.{All-head, All-tail}
use Rattle.std.proofs.lemmas.List.Sums.{sum_by-cons}
use Rattle.std.proofs.lemmas.Str.{encodes-append}
use Rattle.json_bytes.specs.Numbers.{greatest}
use Rattle.output_cast.specs.Events.{Event, event_of, events_from, left_text, read_behind}
use Rattle.tape_core.specs.Due.{due_time}
use Rattle.tape_core.specs.Tape.{body, longest_delay}
use Rattle.tape_core.specs.declared.chunk.Chunk.{Chunk}
use Rattle.cast_laws.specs.Whole.{chunks_from}
use Rattle.cast_laws.proofs.EventLemmas.{AreEarly}

-- no event is before the one in front of it, and each has a text
abbrev pub Ordered : ℕ → List Event → Type 0
Ordered before [] = Unit {0}
Ordered before (event ∷ more) = (before ≤ event.moment) × (0 < length event.text) × Ordered event.moment more

earlier : (before moment : ℕ) (list : List Event) → before ≤ moment → Ordered moment list → Ordered before list
earlier before moment [] le ordered = tt
earlier before moment (event ∷ more) le ordered = (omega (arith, ordered.0), ordered.1, ordered.2)

one_ordered : (before moment : ℕ) (text : List ℕ) (more : List Event) → before ≤ moment → Ordered moment more → Ordered before (event_of moment text ++ more)
one_ordered before moment [] more le ordered = earlier before moment more le ordered
one_ordered before moment (c ∷ cs) more le ordered = (le, omega arith, ordered)

left_ordered : (moment : ℕ) (pending : List ℕ) → Ordered moment (event_of moment (left_text pending))
left_ordered moment [] = tt
left_ordered moment (byte ∷ rest) = (omega arith, omega arith, tt)

pub events_ordered : (moment : ℕ) (pending : List ℕ) (chunks : List Chunk) → Ordered moment (events_from moment pending chunks)
unfolding events_from
events_ordered moment pending [] = left_ordered moment pending
events_ordered moment pending (chunk ∷ rest) =
    let d = read_behind pending chunk.bytes in
    one_ordered moment (moment + chunk.delay) d.characters (events_from (moment + chunk.delay) d.pending rest) (omega arith)
    (events_ordered (moment + chunk.delay) d.pending rest)

-- as many chunks as events
pub as_many : (before : ℕ) (list : List Event) → length (chunks_from before list) ≡ length list
as_many before [] = refl
as_many before (event ∷ more) = ap suc (as_many event.moment more)

-- within the limits no moment is above the greatest
abbrev pub AreShort : List Chunk → Type 0
AreShort chunks = All (λ (c : Chunk). c.delay ≤ longest_delay) chunks

pub are_early : (before : ℕ) (list : List Event) → Ordered before list → AreShort (chunks_from before list) → before + longest_delay * length list ≤ greatest → AreEarly list
are_early before [] ordered short room = tt
are_early before (event ∷ more) ordered short room =
    let P : Chunk → Type 0 = λ c. c.delay ≤ longest_delay in
    let chunk : Chunk = record { delay = event.moment - before; bytes = encode_utf8_all event.text } in
    let first : event.moment - before ≤ longest_delay = All-head P chunk (chunks_from event.moment more) short in
    (omega (arith, first, room), are_early event.moment more ordered.2 (All-tail P chunk (chunks_from event.moment more) short) (omega (arith, first, room)))

-- each chunk is due at its event's moment
due_when : (before : ℕ) (list : List Event) (k : ℕ) (event : Event) → Ordered before list → k < length list
    → before + sum_by (λ (c : Chunk). c.delay) (take (k + 1) (chunks_from before list)) ≡ (get_or list k event).moment
due_when before [] k event ordered below = absurd (omega arith)
due_when before (first ∷ more) zero event ordered below = omega (arith, ordered.0)
due_when before (first ∷ more) (suc k) event ordered below =
    let delay : Chunk → ℕ = λ c. c.delay in
    let chunk : Chunk = record { delay = first.moment - before; bytes = encode_utf8_all first.text } in
    let next : suc k + 1 ≡ suc (k + 1) = omega arith in
    let sum = sum_by-cons delay chunk (take (k + 1) (chunks_from first.moment more)) in
    let later = due_when first.moment more k event ordered.2 (omega arith) in
    rw next (omega (arith, sum, later, ordered.0))

pub due_first : (list : List Event) (k : ℕ) (event : Event) → Ordered 0 list → k < length list → due_time (chunks_from 0 list) k ≡ (get_or list k event).moment
due_first list k event ordered below = let due = due_when 0 list k event ordered below in omega (arith, due)

-- the bytes of all chunks are the texts' in UTF-8
pub body_is : (before : ℕ) (list : List Event) → body (chunks_from before list) ≡ encode_utf8_all (flat_map (λ event. event.text) list)
body_is before [] = refl
body_is before (event ∷ more) =
    ap (λ t. encode_utf8_all event.text ++ t) (body_is event.moment more) ∙ sym (encodes-append event.text (flat_map (λ e. e.text) more))
