-- What is read without a fault is mended as it is.
use Rattle.std.proofs.Common.{◌≡◌, ℕ, ◌+◌, ◌<◌, ◌≤◌, ◌==◌, Bool, true, false, cond, List, [], ◌∷◌, ◌++◌, length, take, drop, filter, map, All, Option, Some, None, Ok, Err, nat_lt, nat_le, refl, ap, sym, ◌∙◌, arith, append-nil, append_assoc, length-append}
use Rattle.std.specs.List.{position_or_len}
use Rattle.std.proofs.lemmas.Bool.{le-ltb, lt-leb, le-leb}
use Rattle.std.proofs.lemmas.List.{drop_at, get_or_append_left, take_at}
use Rattle.std.proofs.lemmas.List.Concat.{flat_map-cons}
use Rattle.std.proofs.lemmas.List.Elements.{All-head, All-tail}
use Rattle.std.proofs.lemmas.List.Sums.{fails_before_first, passes_at_first, position_or_len_is, sum_by-cons}
use Rattle.tape_core.specs.declared.chunk.Chunk.{Chunk}
use Rattle.tape_core.specs.declared.timing.Entry.{Entry}
use Rattle.tape_core.specs.declared.timing.EntryFault.TheVariants as entry
use Rattle.tape_core.specs.Reading.{AreTimed, header_len, reads}
use Rattle.tape_core.specs.Tape.{IsHeader, Tape, body, body_len, longest_body, longest_chunk, longest_delay, most_chunks}
use Rattle.tape_core.specs.Text.{fields, lines_of}
use Rattle.tape_core.specs.Timing.{IsWithin, TimingLine, begins_with_letter, delay_of, delayed, entry_of_fields, only_count}
use Rattle.tape_mend.specs.declared.counting.Behind.{Behind}
use Rattle.tape_mend.specs.declared.counting.Piece.{Piece}
use Rattle.tape_mend.specs.declared.counting.Piece.TheVariants as piece
use Rattle.tape_mend.specs.declared.line.Format.TheVariants.{Classic}
use Rattle.tape_mend.specs.declared.line.Line.{Line}
use Rattle.tape_mend.specs.declared.line.Stream.TheVariants.{Output}
use Rattle.tape_mend.specs.declared.opening.Header.TheVariants.{Kept}
use Rattle.tape_mend.specs.Counting.{Logs, are_shared, limited, with_line, within}
use Rattle.tape_mend.specs.Front.{Front, at_first, format_of, front, front_of, is_event_line, no_logs}
use Rattle.tape_mend.specs.Mended.{mended, nothing_lost, remains}
use Rattle.tape_mend.specs.Streams.{classic_line, said_by}
use Rattle.tape_mend.specs.Taken.{Taken, taken}
use Rattle.tape_core.proofs.ReadBackLemmas.{timing_line_read}
use Rattle.tape_mend.proofs.FrontLemmas.{front_more}
use Rattle.tape_mend.proofs.LinesLemmas.{has_fields, lines_stay, no_cr_lf, some_fields}

abbrev entry_for : Chunk → Entry
entry_for c = record { delay = c.delay; count = length c.bytes }

abbrev line_for : Chunk → Line
line_for c = record { stream = Output; delay = c.delay; count = length c.bytes }

abbrev piece_for : Chunk → Piece
piece_for c = piece.Output (entry_for c)

-- the chunks are within the limits of one
pub record Limits (chunks : List Chunk) : Type 0 where
  pub delays : All (λ c. c.delay ≤ longest_delay) chunks
  pub lengths : All (λ c. length c.bytes ≤ longest_chunk) chunks

first_within : (c : Chunk) (cs : List Chunk) → Limits (c ∷ cs) → IsWithin (entry_for c)
first_within c cs l = record {
  delay = All-head (λ c. c.delay ≤ longest_delay) c cs l.delays;
  count = All-head (λ c. length c.bytes ≤ longest_chunk) c cs l.lengths;
}

more_within : (c : Chunk) (cs : List Chunk) → Limits (c ∷ cs) → Limits cs
more_within c cs l = record {
  delays = All-tail (λ c. c.delay ≤ longest_delay) c cs l.delays;
  lengths = All-tail (λ c. length c.bytes ≤ longest_chunk) c cs l.lengths;
}

-- a line that is read begins with no letter
unlettered : (first : List ℕ) (rest : List (List ℕ)) (e : Entry) → entry_of_fields (first ∷ rest) ≡ Ok (Some e) → begins_with_letter first ≡ false
unlettered first rest e h = by (begins_with_letter first) refl h
  where
    by : (t : Bool) → begins_with_letter first ≡ t → cond t (Err entry.MultiStream) (delayed (delay_of first) (only_count rest)) ≡ Ok (Some e)
        → begins_with_letter first ≡ false
    by true is h = absurd (cc)
    by false is h = is

-- and has one count, so that it is no line of sudo's
unsudoed : (first : List ℕ) (rest : List (List ℕ)) (e : Entry) → entry_of_fields (first ∷ rest) ≡ Ok (Some e) → is_event_line (first ∷ rest) ≡ false
unsudoed first [] e h = refl
unsudoed first (second ∷ []) e h = refl
unsudoed first (second ∷ third ∷ more) e h = absurd (by (begins_with_letter first) (delay_of first) h)
  where
    by : (t : Bool) (d : Option ℕ) → cond t (Err entry.MultiStream) (delayed d None) ≡ Ok (Some e) → ⊥
    by true d h = cc
    by false None h = cc
    by false (Some n) h = cc

is_classic : (lines : List (List ℕ)) (chunks : List Chunk) → Limits chunks → AreTimed (filter has_fields lines) chunks
    → format_of lines ≡ Classic
is_classic [] chunks l timed = refl
is_classic (text ∷ rest) chunks l timed = by (fields text) chunks refl l timed (λ timed. is_classic rest chunks l timed)
  where
    by : (fs : List (List ℕ)) (chunks : List Chunk) → fields text ≡ fs → Limits chunks → AreTimed (filter has_fields (text ∷ rest)) chunks
        → (AreTimed (filter has_fields rest) chunks → format_of rest ≡ Classic) → format_of (text ∷ rest) ≡ Classic
    by [] chunks is l timed more = rw is (more (rw is at timed))
    by (first ∷ others) [] is l timed more = absurd (rw (some_fields text first others is) at timed)
    by (first ∷ others) (c ∷ cs) is l timed more =
        let line = rw (some_fields text first others is) at timed in
        let said : entry_of_fields (first ∷ others) ≡ Ok (Some (entry_for c)) = ap entry_of_fields (sym is) ∙ timing_line_read text (entry_for c) line.0 (first_within c cs l) in
        rw (is, unlettered first others (entry_for c) said, unsudoed first others (entry_for c) said) refl

-- a chunk's line is within the limits behind others
within_behind : (behind : Behind) (shared : Bool) (c : Chunk) → behind.waited ≡ 0 → IsWithin (entry_for c) → behind.outputs < most_chunks
    → behind.bytes + length c.bytes ≤ longest_body → within behind shared (line_for c) ≡ Ok (Some (line_for c))
within_behind behind shared c none w few small =
    let one : nat_lt longest_delay (behind.waited + c.delay) ≡ false = le-ltb _ _ (omega (arith, w.delay)) in
    let two : nat_lt longest_chunk (length c.bytes) ≡ false = le-ltb _ _ w.count in
    let three : nat_le most_chunks behind.outputs ≡ false = lt-leb _ _ few in
    let four : nat_lt longest_body (behind.bytes + length c.bytes) ≡ false = le-ltb _ _ small in
    rw (one, two, three, four) refl

-- there is room for the chunks behind lines that end in an output
pub record RoomBehind (behind : Behind) (chunks : List Chunk) : Type 0 where
  pub waited : behind.waited ≡ 0
  pub few : behind.outputs + length chunks ≤ most_chunks
  pub bytes : behind.bytes + body_len chunks ≤ longest_body
  pub limits : Limits chunks

-- nothing was left out behind these lines
pub record Whole (f : Front) (parts : List Piece) (behind : Behind) : Type 0 where
  pub pieces : f.pieces ≡ parts
  pub fault : f.fault ≡ None
  pub inputs : f.behind.inputs ≡ behind.inputs
  pub signals : f.behind.signals ≡ behind.signals
  pub pipes : f.behind.pipes ≡ behind.pipes
  pub resizes : f.behind.resizes ≡ behind.resizes

-- nothing is left out of these lines, which time these chunks
abbrev StaysWhole : Logs → List (List ℕ) → List Chunk → Type 0
StaysWhole logs lines chunks = (pieces : List Piece) (behind : Behind) → RoomBehind behind chunks
    → Whole (front Classic pieces behind logs lines) (pieces ++ map piece_for chunks) behind

whole_blank : (text : List ℕ) (rest : List (List ℕ)) (chunks : List Chunk) (pieces : List Piece) (behind : Behind) (logs : Logs)
    → fields text ≡ []
    → Whole (front Classic pieces (record behind { lines = behind.lines + 1 }) logs rest) (pieces ++ map piece_for chunks) behind
    → Whole (front Classic pieces behind logs (text ∷ rest)) (pieces ++ map piece_for chunks) behind
whole_blank text rest chunks pieces behind logs is whole =
    let said : limited behind (are_shared logs) (said_by Classic text) ≡ Ok None = rw is refl in
    rw (front_more Classic pieces behind logs text rest None said, append-nil pieces) whole

whole_chunk : (text : List ℕ) (rest : List (List ℕ)) (c : Chunk) (cs : List Chunk) (logs : Logs)
    → TimingLine text c.delay (length c.bytes) → StaysWhole logs rest cs → StaysWhole logs (text ∷ rest) (c ∷ cs)
whole_chunk text rest c cs logs line more pieces behind room =
    let w = first_within c cs room.limits in
    let count : body_len (c ∷ cs) ≡ length c.bytes + body_len cs = sum_by-cons (λ c. length c.bytes) c cs in
    let fits = within_behind behind (are_shared logs) c room.waited w (omega (arith, room.few)) (omega (arith, room.bytes)) in
    let said : limited behind (are_shared logs) (said_by Classic text) ≡ Ok (Some (line_for c)) =
    ap (λ r. limited behind (are_shared logs) (classic_line r)) (timing_line_read text (entry_for c) line w) ∙ fits in
    let next = with_line behind (are_shared logs) (Some (line_for c)) in
    let room' : RoomBehind next cs = record {
      waited = refl;
      few = omega (arith, room.few);
      bytes = omega (arith, room.bytes);
      limits = more_within c cs room.limits;
    } in
    let delay : behind.waited + c.delay ≡ c.delay = omega (arith, room.waited) in
    let whole = more (pieces ++ piece_for c ∷ []) next room' in
    rw (front_more Classic pieces behind logs text rest (Some (line_for c)) said, delay) (record {
      pieces = whole.pieces ∙ append_assoc pieces (piece_for c ∷ []) (map piece_for cs);
      fault = whole.fault;
      inputs = whole.inputs;
      signals = whole.signals;
      pipes = whole.pipes;
      resizes = whole.resizes;
    })

front_whole : (lines : List (List ℕ)) (chunks : List Chunk) (logs : Logs) → AreTimed (filter has_fields lines) chunks
    → StaysWhole logs lines chunks
front_whole [] [] logs timed pieces behind room =
    record { pieces = sym (append-nil pieces); fault = refl; inputs = refl; signals = refl; pipes = refl; resizes = refl }
front_whole [] (c ∷ cs) logs timed pieces behind room = absurd timed
front_whole (text ∷ rest) chunks logs timed pieces behind room =
    by (fields text) chunks refl timed (λ chunks timed. front_whole rest chunks logs timed) pieces behind room
  where
    by : (fs : List (List ℕ)) (chunks : List Chunk) → fields text ≡ fs → AreTimed (filter has_fields (text ∷ rest)) chunks
        → ((chunks : List Chunk) → AreTimed (filter has_fields rest) chunks → StaysWhole logs rest chunks)
        → StaysWhole logs (text ∷ rest) chunks
    by [] chunks is timed more pieces behind room =
        let whole = more chunks (rw is at timed) pieces (record behind { lines = behind.lines + 1 })
        (record { waited = room.waited; few = room.few; bytes = room.bytes; limits = room.limits }) in
        whole_blank text rest chunks pieces behind logs is
        (record { pieces = whole.pieces; fault = whole.fault; inputs = whole.inputs; signals = whole.signals; pipes = whole.pipes; resizes = whole.resizes })
    by (first ∷ others) [] is timed more pieces behind room = absurd (rw (some_fields text first others is) at timed)
    by (first ∷ others) (c ∷ cs) is timed more pieces behind room =
        let line = rw (some_fields text first others is) at timed in
        whole_chunk text rest c cs logs line.0 (more cs line.1) pieces behind room

-- the pieces of chunks take just their bytes
taken_whole : (chunks : List Chunk) (before : List Chunk) (trailer : List ℕ)
    → taken before (body chunks ++ trailer) (map piece_for chunks) ≡ record { chunks = before ++ chunks; cut = None; left = 0; rest = trailer }
taken_whole [] before trailer = rw append-nil refl
taken_whole (c ∷ cs) before trailer =
    let bytes = c.bytes ++ (body cs ++ trailer) in
    let joined : body (c ∷ cs) ++ trailer ≡ bytes = ap (λ b. b ++ trailer) (flat_map-cons (λ c. c.bytes) c cs) ∙ append_assoc c.bytes (body cs) trailer in
    let fits : nat_le (length c.bytes) (length bytes) ≡ true = le-leb _ _ (omega (arith, length-append c.bytes (body cs ++ trailer))) in
    let taken_bytes : take (length c.bytes) bytes ≡ c.bytes = take_at c.bytes (body cs ++ trailer) (length c.bytes) refl in
    let left : drop (length c.bytes) bytes ≡ body cs ++ trailer = drop_at c.bytes (body cs ++ trailer) (length c.bytes) refl in
    ap (λ b. taken before b (map piece_for (c ∷ cs))) joined
    ∙ rw (fits, taken_bytes, left) (taken_whole cs (before ++ c ∷ []) trailer
    ∙ ap (λ chunks. let t : Taken = record { chunks = chunks; cut = None; left = 0; rest = trailer } in t) (append_assoc before (c ∷ []) cs))

-- a header is the first line of what it stands before
header_of : (header rest : List ℕ) → IsHeader header → header_len (header ++ rest) ≡ length header
header_of header rest is =
    let place = position_or_len (λ b. b == 10) header in
    let at = position_or_len_is (λ b. b == 10) (header ++ rest) place 0 (omega (arith, length-append header rest, is))
    (λ k lt. rw (get_or_append_left header rest 0 k (omega (arith, is))) (fails_before_first (λ b. b == 10) header k 0 lt))
    (λ lt. rw (get_or_append_left header rest 0 place (omega (arith, is))) (passes_at_first (λ b. b == 10) header 0 (omega (arith, is)))) in
    ap (λ n. n + 1) at ∙ sym is

pub whole_stays : (script timing : List ℕ) (tape : Tape) → reads script timing tape
    → mended Kept script timing ≡ record { tape = tape; losses = nothing_lost }
whole_stays script timing tape r =
    let behind = body tape.chunks ++ tape.trailer in
    let joined : script ≡ tape.header ++ behind = r.joined ∙ append_assoc tape.header (body tape.chunks) tape.trailer in
    let len : header_len script ≡ length tape.header = ap header_len joined ∙ header_of tape.header behind r.fitting.header in
    let header : take (header_len script) script ≡ tape.header =
    ap (λ n. take n script) len ∙ ap (take (length tape.header)) joined ∙ take_at tape.header behind (length tape.header) refl in
    let rest : drop (header_len script) script ≡ behind =
    ap (λ n. drop n script) len ∙ ap (drop (length tape.header)) joined ∙ drop_at tape.header behind (length tape.header) refl in
    let limits : Limits tape.chunks = record { delays = r.fitting.delays; lengths = r.fitting.lengths } in
    let lines = lines_of timing in
    let room : RoomBehind at_first tape.chunks = record {
      waited = refl;
      few = omega (arith, r.fitting.few);
      bytes = omega (arith, r.fitting.bytes);
      limits = limits;
    } in
    let format = is_classic lines tape.chunks limits r.timed in
    let front_is : front_of timing ≡ front Classic [] at_first no_logs lines =
    ap (λ ls. front (format_of ls) [] at_first no_logs ls) (lines_stay timing tape.chunks r.timed) ∙ ap (λ f. front f [] at_first no_logs lines) format in
    let whole = front_whole lines tape.chunks no_logs r.timed [] at_first room in
    let f = front Classic [] at_first no_logs lines in
    ap (λ cr_lf. remains script cr_lf (front_of timing) (taken [] (drop (header_len script) script) (front_of timing).pieces))
    (no_cr_lf timing tape.chunks r.timed)
    ∙ ap (λ f. remains script false f (taken [] (drop (header_len script) script) f.pieces)) front_is
    ∙ ap (λ b. remains script false f (taken [] b f.pieces)) rest
    ∙ ap (λ ps. remains script false f (taken [] behind ps)) whole.pieces
    ∙ ap (remains script false f) (taken_whole tape.chunks [] tape.trailer)
    ∙ rw (header, whole.fault, whole.inputs, whole.signals, whole.pipes, whole.resizes) refl
