-- What a change does to the limits, to the sum of the bytes and to the due times.
use Rattle.std.proofs.Common.{◌≡◌, ℕ, ◌+◌, ◌-◌, ◌<◌, ◌≤◌, List, [], ◌∷◌, ◌++◌, length, map, get_or, set, take, drop, ap, sym, ◌∙◌, arith, add-one, append_assoc, length-append, length-take, length-drop, Vec}
use Rattle.std.specs.List.{sum_by}
use Rattle.std.specs.Vec.{with_items}
use Rattle.std.proofs.lemmas.List.Folds.{fold-map}
use Rattle.std.proofs.lemmas.List.{length-set, drop-drop, drop_more, length-map, map-set, set-get_or, set_split, take-map, get_or-map, with_items_is}
use Rattle.std.proofs.lemmas.List.Edits.{length-insert}
use Rattle.std.proofs.lemmas.List.Elements.{All-append, All-cons, All-drop, All-map, All-set, All-take}
use Rattle.std.proofs.lemmas.List.Sums.{sum-map, sum_by-append, sum_by-insert, sum_by-set, sum_by-take-drop}
use Rattle.tape_core.specs.declared.chunk.Chunk.{Chunk}
use Rattle.tape_core.specs.Tape.{Tape, body_len, fits, longest_body, longest_chunk, longest_delay, most_chunks}
use Rattle.tape_core.specs.Edited.{capped, capped_chunk, changed_at, inserted, removed, replaced, with_chunks}
use Rattle.tape_core.specs.Kept.{AreDueTimes}

-- a write to one place is a change of that chunk
pub set_is_changed : (change : Chunk → Chunk) (chunks : List Chunk) (at : ℕ) (c : Chunk) → at < length chunks
    → c ≡ get_or chunks at c → set chunks at (change c) ≡ changed_at change at chunks
set_is_changed change chunks at c lt is =
    set_split chunks at (change c) lt
    ∙ ap (λ rest. take at chunks ++ change c ∷ rest) (ap (λ n. drop n chunks) (sym (add-one at)))
    ∙ sym (append_assoc (take at chunks) (map change (c ∷ [])) (drop (at + 1) chunks))
    ∙ ap (λ x. take at chunks ++ map change x ++ drop (at + 1) chunks) (sym (ap (take 1) (drop_more chunks at c lt) ∙ ap (λ x. x ∷ []) (sym is)))

-- chunks with the same delays are due at the same times
pub same_dues : (old new : List Chunk) (dues : List ℕ) → map (λ c. c.delay) old ≡ map (λ c. c.delay) new → AreDueTimes old dues → AreDueTimes new dues
same_dues old new dues same are =
    let long : length old ≡ length new = sym (length-map old (λ c. c.delay)) ∙ ap length same ∙ length-map new (λ c. c.delay) in
    let time = λ (chunks : List Chunk) (i : ℕ). sym (sum-map (λ c. c.delay) (take (i + 1) chunks)) ∙ ap (sum_by (λ d. d)) (sym (take-map (λ (c : Chunk). c.delay) (i + 1) chunks)) in
    record {
      one_each = are.one_each ∙ long;
      times = λ i lt. are.times i (omega arith) ∙ time old i ∙ ap (λ ds. sum_by (λ d. d) (take (i + 1) ds)) same ∙ sym (time new i);
    }

-- a write that keeps the delay keeps all delays
pub same_delays : (chunks : List Chunk) (at : ℕ) (c c' : Chunk) → at < length chunks → c ≡ get_or chunks at c
    → c'.delay ≡ c.delay → map (λ x. x.delay) chunks ≡ map (λ x. x.delay) (set chunks at c')
same_delays chunks at c c' lt is same =
    let there : get_or (map (λ x. x.delay) chunks) at 0 ≡ c'.delay = get_or-map (λ (x : Chunk). x.delay) chunks at c 0 lt ∙ ap (λ x. x.delay) (sym is) ∙ sym same in
    sym (map-set (λ (x : Chunk). x.delay) chunks at c' ∙ ap (λ d. set (map (λ x. x.delay) chunks) at d) (sym there) ∙ set-get_or (map (λ x. x.delay) chunks) at 0)

-- the bytes after each change
pub body_len-inserted : (chunks : List Chunk) (at : ℕ) (c : Chunk)
    → body_len (take at chunks ++ c ∷ drop at chunks) ≡ body_len chunks + length c.bytes
body_len-inserted chunks at c = sum_by-insert (λ x. length x.bytes) chunks at c

pub body_len-removed : (chunks : List Chunk) (from to : ℕ) → from ≤ to
    → body_len (take from chunks ++ drop to chunks) + body_len (take (to - from) (drop from chunks)) ≡ body_len chunks
body_len-removed chunks from to le =
    let f : Chunk → ℕ = λ x. length x.bytes in
    let at : from + (to - from) ≡ to = omega arith in
    let behind = ap (λ n. sum_by f (drop n chunks)) (sym at) ∙ ap (sum_by f) (sym (drop-drop (to - from) from chunks)) in
    omega (arith, sum_by-append f (take from chunks) (drop to chunks), sum_by-take-drop f chunks from, sum_by-take-drop f (drop from chunks) (to - from), behind)

pub body_len-set : (chunks : List Chunk) (at : ℕ) (c c' : Chunk) → at < length chunks → c ≡ get_or chunks at c
    → body_len (set chunks at c') + length c.bytes ≡ body_len chunks + length c'.bytes
body_len-set chunks at c c' lt is = ap (λ x. body_len (set chunks at c') + length x.bytes) is ∙ sum_by-set (λ x. length x.bytes) chunks at c' c lt

pub body_len-capped : (max : ℕ) (chunks : List Chunk) → body_len (map (capped_chunk max) chunks) ≡ body_len chunks
body_len-capped max chunks = fold-map (λ n c. n + length c.bytes) (capped_chunk max) 0 chunks

-- the limits of one chunk
abbrev IsSoon : Chunk → Type 0
IsSoon c = c.delay ≤ longest_delay

abbrev IsShort : Chunk → Type 0
IsShort c = length c.bytes ≤ longest_chunk

-- the limits after each change
pub fits-inserted : (tape : Tape) (at : ℕ) (c : Chunk) → fits tape → at ≤ length tape.chunks
    → length tape.chunks < most_chunks → c.delay ≤ longest_delay → length c.bytes ≤ longest_chunk
    → body_len tape.chunks + length c.bytes ≤ longest_body → fits (inserted at c tape)
fits-inserted tape at c fit le few delay len bytes = record {
  header = fit.header;
  few = omega (arith, length-insert tape.chunks at c le);
  delays = All-append IsSoon (take at tape.chunks) (c ∷ drop at tape.chunks) (All-take IsSoon at tape.chunks fit.delays) (All-cons IsSoon c (drop at tape.chunks) delay (All-drop IsSoon at tape.chunks fit.delays));
  lengths = All-append IsShort (take at tape.chunks) (c ∷ drop at tape.chunks) (All-take IsShort at tape.chunks fit.lengths) (All-cons IsShort c (drop at tape.chunks) len (All-drop IsShort at tape.chunks fit.lengths));
  bytes = omega (arith, body_len-inserted tape.chunks at c);
}

pub fits-removed : (tape : Tape) (from to : ℕ) → fits tape → from ≤ to → to ≤ length tape.chunks → fits (removed from to tape)
fits-removed tape from to fit order within = record {
  header = fit.header;
  few = omega (arith, fit.few, length-append (take from tape.chunks) (drop to tape.chunks), length-take from tape.chunks, length-drop to tape.chunks);
  delays = All-append IsSoon (take from tape.chunks) (drop to tape.chunks) (All-take IsSoon from tape.chunks fit.delays) (All-drop IsSoon to tape.chunks fit.delays);
  lengths = All-append IsShort (take from tape.chunks) (drop to tape.chunks) (All-take IsShort from tape.chunks fit.lengths) (All-drop IsShort to tape.chunks fit.lengths);
  bytes = omega (arith, fit.bytes, body_len-removed tape.chunks from to order);
}

pub fits-set : (tape : Tape) (at : ℕ) (c c' : Chunk) → fits tape → at < length tape.chunks → c ≡ get_or tape.chunks at c
    → c'.delay ≤ longest_delay → length c'.bytes ≤ longest_chunk
    → body_len (set tape.chunks at c') ≤ longest_body → fits (with_chunks (set tape.chunks at c') tape)
fits-set tape at c c' fit lt is soon short small = record {
  header = fit.header;
  few = omega (arith, fit.few, length-set tape.chunks at c');
  delays = All-set IsSoon tape.chunks at c' soon fit.delays;
  lengths = All-set IsShort tape.chunks at c' short fit.lengths;
  bytes = small;
}

pub fits-capped : (tape : Tape) (max : ℕ) → fits tape → fits (capped max tape)
fits-capped tape max fit = record {
  header = fit.header;
  few = omega (arith, fit.few, length-map tape.chunks (capped_chunk max));
  delays = All-map IsSoon (capped_chunk max) tape.chunks (λ k d lt. omega (arith, fit.delays k d lt));
  lengths = All-map IsShort (capped_chunk max) tape.chunks fit.lengths;
  bytes = omega (arith, fit.bytes, body_len-capped max tape.chunks);
}

-- due times that were written into a vector of just their number
pub due_written : {Z : Type 0} (v : Vec ℕ Z) (dues : List ℕ) (chunks chunks' : List Chunk) → length dues ≡ v.len
    → chunks ≡ chunks' → AreDueTimes chunks dues → AreDueTimes chunks' (with_items v dues).items
due_written v dues chunks chunks' long same are = rw (with_items_is v dues long, ← same) are

-- the bytes after a chunk got others
pub body_len-replaced : (tape : Tape) (at : ℕ) (bytes : List ℕ) (c : Chunk) → at < length tape.chunks
    → c ≡ get_or tape.chunks at c
    → body_len (replaced at bytes tape).chunks + length c.bytes ≡ body_len tape.chunks + length bytes
body_len-replaced tape at bytes c lt is =
    ap (λ chunks. body_len chunks + length c.bytes) (sym (set_is_changed (λ x. record x { bytes = bytes }) tape.chunks at c lt is)) ∙ body_len-set tape.chunks at c (record c { bytes = bytes }) lt is
