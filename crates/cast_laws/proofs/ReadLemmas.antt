-- The lines of events, read one after another: each gives its chunk, and nothing is lost.
use Rattle.std.proofs.Common.{◌≡◌, ℕ, ◌+◌, ◌-◌, ◌<◌, ◌≤◌, Bool, false, All, List, [], ◌∷◌, ◌++◌, encode_utf8_all, length, map, max, min, nat_lt, Option, Some, None, if◌then◌else◌, refl, ap, subst, sym, ◌∙◌, arith, append-nil, append_assoc, length-append}
use Rattle.std.specs.Option.{option_or}
use Rattle.std.proofs.lemmas.Bool.{le-ltb, lt-leb}
use Rattle.std.proofs.lemmas.List.Elements.{All-head, All-tail}
use Rattle.std.proofs.lemmas.List.Sums.{sum_by-cons, sum_by_push}
use Rattle.std.proofs.lemmas.Str.{length-le-encodes}
use Rattle.json_bytes.specs.Numbers.{greatest}
use Rattle.output_cast.specs.Events as given
use Rattle.output_cast.specs.Json.{json_text}
use Rattle.tape_core.specs.Seconds.{last_moment}
use Rattle.tape_core.specs.Tape.{body_len, longest_body, longest_chunk, longest_delay, most_chunks}
use Rattle.tape_core.specs.Written.{seconds_form}
use Rattle.tape_core.specs.declared.chunk.Chunk.{Chunk}
use Rattle.tape_import.specs.Asciicast.{event_fault, event_of, events, is_blank_line, line_fault, on_line, with_found, with_line}
use Rattle.tape_import.specs.Outputs.{Outputs, output_fault, reached, with_output}
use Rattle.tape_import.specs.declared.asciicast.Cast.{Cast}
use Rattle.tape_import.specs.declared.asciicast.CastFront.{CastFront}
use Rattle.tape_import.specs.declared.event.Event.{Event}
use Rattle.tape_import.specs.declared.event.What.TheVariants as what
use Rattle.tape_import.specs.declared.version.Version.TheVariants as version
use Rattle.cast_laws.specs.Whole.{chunks_from}
use Rattle.cast_laws.proofs.ChunkLemmas.{Ordered}
use Rattle.cast_laws.proofs.EventLemmas.{AreEarly, event_read, line_of, line_spelled}
use Rattle.cast_laws.proofs.NumberLemmas.{not_none}

-- ---- one output

or_none : (first : Option ℕ) → option_or first None ≡ first
or_none None = refl
or_none (Some n) = refl

-- the outputs with one more, by the moment, the delay, and whether it is cut
abbrev made : ℕ → List ℕ → Outputs → ℕ → ℕ → Bool → Outputs
made number bytes so_far moment delay late = record {
  chunks = so_far.chunks ++ record { delay = delay; bytes = bytes } ∷ [];
  moment = moment;
  due = moment;
  slow = so_far.slow + (if late then 1 else 0);
  first_slow = option_or so_far.first_slow (if late then Some number else None);
}

abbrev taken : List ℕ → Outputs → ℕ → ℕ → ℕ → Option ℕ → Outputs
taken bytes so_far moment delay slow first =
    record { chunks = so_far.chunks ++ record { delay = delay; bytes = bytes } ∷ []; moment = moment; due = moment; slow = slow; first_slow = first }

output_taken : (number us before : ℕ) (bytes : List ℕ) (so_far : Outputs) → so_far.moment ≡ before → so_far.due ≡ before → before ≤ us → us - before ≤ longest_delay → us ≤ greatest
    → 0 < length bytes → with_output number bytes (reached us so_far) ≡ taken bytes so_far us (us - before) so_far.slow so_far.first_slow
output_taken number us before [] so_far moment due le short early some = absurd (omega arith)
output_taken number us before (b ∷ bs) so_far moment due le short early some =
    let bytes = b ∷ bs in
    let at : max so_far.moment (min us last_moment) ≡ us = omega arith in
    let waited : us - so_far.due ≡ us - before = omega arith in
    let delay : min (us - before) longest_delay ≡ us - before = omega arith in
    let late : nat_lt longest_delay (us - before) ≡ false = le-ltb longest_delay (us - before) short in
    let slow : so_far.slow + 0 ≡ so_far.slow = omega arith in
    ap (λ m. made number bytes so_far m (min (m - so_far.due) longest_delay) (nat_lt longest_delay (m - so_far.due))) at
    ∙ ap (λ w. made number bytes so_far us (min w longest_delay) (nat_lt longest_delay w)) waited
    ∙ ap (λ d. made number bytes so_far us d (nat_lt longest_delay (us - before))) delay
    ∙ ap (made number bytes so_far us (us - before)) late
    ∙ ap (λ s. taken bytes so_far us (us - before) s (option_or so_far.first_slow None)) slow
    ∙ ap (taken bytes so_far us (us - before) so_far.slow) (or_none so_far.first_slow)

no_fault : (so_far : Outputs) (len : ℕ) → 0 < len → len ≤ longest_chunk → length so_far.chunks < most_chunks → body_len so_far.chunks + len ≤ longest_body
    → output_fault so_far len ≡ None
no_fault so_far len some short few small =
    rw (not_none len some, le-ltb longest_chunk len short, lt-leb most_chunks (length so_far.chunks) few, le-ltb longest_body (body_len so_far.chunks + len) small) refl

-- ---- one line

line_taken : (number : ℕ) (cast : Cast) (line : List ℕ) (more : List (List ℕ)) → line_fault version.Two (on_line (number + 1) cast) line ≡ None
    → events version.Two number cast (line ∷ more) ≡ events version.Two (number + 1) (with_line version.Two (on_line (number + 1) cast) line) more
line_taken number cast line more is = rw is refl

not_blank : (event : given.Event) → is_blank_line (line_of event) ≡ false
not_blank event =
    let text = seconds_form event.moment ++ 44 ∷ 32 ∷ 34 ∷ 111 ∷ 34 ∷ 44 ∷ 32 ∷ 34 ∷ (json_text event.text ++ 34 ∷ 93 ∷ []) in
    ap is_blank_line (line_spelled event) ∙ not_none (length (91 ∷ text)) (omega arith)

abbrev output_of : given.Event → Event
output_of event = record { time = event.moment; what = what.Output (encode_utf8_all event.text) }

sound : (cast : Cast) (event : given.Event) → event.moment ≤ greatest → output_fault cast.outputs (length (encode_utf8_all event.text)) ≡ None
    → line_fault version.Two cast (line_of event) ≡ None
sound cast event early fault =
    ap (λ b. if b then None else event_fault cast (event_of (line_of event))) (not_blank event) ∙ ap (event_fault cast) (event_read event early) ∙ fault

after_line : (cast : Cast) (event : given.Event) (outputs : Outputs) → event.moment ≤ greatest
    → with_output cast.line (encode_utf8_all event.text) (reached event.moment cast.outputs) ≡ outputs
    → with_line version.Two cast (line_of event) ≡ record cast { outputs = outputs }
after_line cast event outputs early is =
    ap (λ b. if b then cast else with_found version.Two cast (event_of (line_of event))) (not_blank event)
    ∙ ap (with_found version.Two cast) (event_read event early) ∙ ap (λ (o : Outputs). record cast { outputs = o }) is

-- ---- all of them

-- there is room for more chunks
pub record HasRoom (so_far : Outputs) (more : List Chunk) : Type 0 where
  pub few : length so_far.chunks + length more ≤ most_chunks
  pub delays : All (λ (c : Chunk). c.delay ≤ longest_delay) more
  pub lengths : All (λ (c : Chunk). length c.bytes ≤ longest_chunk) more
  pub bytes : body_len so_far.chunks + body_len more ≤ longest_body

room_behind : (so_far : Outputs) (chunk : Chunk) (moment slow : ℕ) (first : Option ℕ) (more : List Chunk) → HasRoom so_far (chunk ∷ more)
    → HasRoom (record { chunks = so_far.chunks ++ chunk ∷ []; moment = moment; due = moment; slow = slow; first_slow = first }) more
room_behind so_far chunk moment slow first more room =
    let size : Chunk → ℕ = λ c. length c.bytes in
    let longer = length-append so_far.chunks (chunk ∷ []) in
    let heavier = sum_by_push size so_far.chunks chunk in
    let whole = sum_by-cons size chunk more in
    record {
      few = omega (arith, longer, room.few);
      delays = All-tail (λ (c : Chunk). c.delay ≤ longest_delay) chunk more room.delays;
      lengths = All-tail (λ (c : Chunk). length c.bytes ≤ longest_chunk) chunk more room.lengths;
      bytes = omega (arith, heavier, whole, room.bytes);
    }

-- what was read has these chunks more, and nothing is lost
pub record ReadWhole (cast : Cast) (more : List Chunk) (front : CastFront) : Type 0 where
  pub left : front.left ≡ None
  pub chunks : front.cast.outputs.chunks ≡ cast.outputs.chunks ++ more
  pub slow : front.cast.outputs.slow ≡ cast.outputs.slow
  pub first_slow : front.cast.outputs.first_slow ≡ cast.outputs.first_slow
  pub told : front.cast.told ≡ cast.told
  pub others : front.cast.others ≡ cast.others

one_more : (number : ℕ) (cast : Cast) (chunk : Chunk) (moment : ℕ) (more : List Chunk) (front : CastFront)
    → ReadWhole (record (on_line number cast) { outputs = taken chunk.bytes cast.outputs moment chunk.delay cast.outputs.slow cast.outputs.first_slow }) more front
    → ReadWhole cast (chunk ∷ more) front
one_more number cast chunk moment more front read = record {
  left = read.left;
  chunks = read.chunks ∙ append_assoc cast.outputs.chunks (chunk ∷ []) more;
  slow = read.slow;
  first_slow = read.first_slow;
  told = read.told;
  others = read.others;
}

pub all_read : (number : ℕ) (cast : Cast) (before : ℕ) (list : List given.Event) → cast.outputs.moment ≡ before → cast.outputs.due ≡ before → Ordered before list → AreEarly list
    → HasRoom cast.outputs (chunks_from before list) → ReadWhole cast (chunks_from before list) (events version.Two number cast (map line_of list))
all_read number cast before [] moment due ordered early room =
    record { left = refl; chunks = sym (append-nil cast.outputs.chunks); slow = refl; first_slow = refl; told = refl; others = refl }
all_read number cast before (event ∷ more) moment due ordered early room =
    let bytes = encode_utf8_all event.text in
    let chunk : Chunk = record { delay = event.moment - before; bytes = bytes } in
    let rest = chunks_from event.moment more in
    let here : Cast = on_line (number + 1) cast in
    let outputs : Outputs = taken bytes cast.outputs event.moment (event.moment - before) cast.outputs.slow cast.outputs.first_slow in
    let next : Cast = record here { outputs = outputs } in
    let some : 0 < length bytes = omega (arith, length-le-encodes event.text, ordered.1) in
    let short : event.moment - before ≤ longest_delay = All-head (λ (c : Chunk). c.delay ≤ longest_delay) chunk rest room.delays in
    let long : length bytes ≤ longest_chunk = All-head (λ (c : Chunk). length c.bytes ≤ longest_chunk) chunk rest room.lengths in
    let whole = sum_by-cons (λ (c : Chunk). length c.bytes) chunk rest in
    let fault : output_fault cast.outputs (length bytes) ≡ None = no_fault cast.outputs (length bytes) some long (omega (arith, room.few)) (omega (arith, whole, room.bytes)) in
    let out : with_output (number + 1) bytes (reached event.moment cast.outputs) ≡ outputs =
    output_taken (number + 1) event.moment before bytes cast.outputs moment due ordered.0 short early.0 some in
    let taken_so : events version.Two number cast (line_of event ∷ map line_of more) ≡ events version.Two (number + 1) next (map line_of more) =
    line_taken number cast (line_of event) (map line_of more) (sound here event early.0 fault)
    ∙ ap (λ (c : Cast). events version.Two (number + 1) c (map line_of more)) (after_line here event outputs early.0 out) in
    subst (λ (f : CastFront). ReadWhole cast (chunk ∷ rest) f) (sym taken_so)
    (one_more (number + 1) cast chunk event.moment rest (events version.Two (number + 1) next (map line_of more))
    (all_read (number + 1) next event.moment more refl refl ordered.2 early.1
    (room_behind cast.outputs chunk event.moment cast.outputs.slow cast.outputs.first_slow rest room)))
