-- A pair of files is read as one recording and no other, and what is written as the recording that was written.
use Rattle.std.proofs.Common.{◌≡◌, ℕ, ◌+◌, ◌-◌, ◌<◌, All, Bool, true, List, [], ◌∷◌, ◌++◌, length, take, drop, map, None, nat_eq, refl, ap, sym, ◌∙◌, arith, append_assoc, length-append}
use Rattle.std.specs.List.{position_or_len}
use Rattle.std.proofs.lemmas.Bool.{lt-ltb}
use Rattle.std.proofs.lemmas.List.{drop_at, get_or_append_left, take_at}
use Rattle.std.proofs.lemmas.List.Elements.{All-head, All-tail}
use Rattle.std.proofs.lemmas.List.Sums.{fails_before_first, passes_at_first, position_or_len_is}
use Rattle.tape_core.specs.declared.chunk.Chunk.{Chunk}
use Rattle.tape_core.specs.Tape.{IsHeader, Tape, body, fits}
use Rattle.tape_core.specs.Timing.{entries_of, first_fault, timing_fault}
use Rattle.tape_core.specs.Reading.{AreTimed, fault_of, has_header, header_len, reads, timed_lines}
use Rattle.tape_core.specs.Steps.{entry_for}
use Rattle.tape_core.specs.Written.{script_text, timing_text}
use Rattle.tape_core.proofs.ReadingLemmas.{body_length, counted_for, never_short}
use Rattle.tape_core.proofs.ReadBackLemmas.{IsWithinLimits, timing_line_read, written_entries, written_faultless, written_lines, written_timed}

abbrev is_feed : ℕ → Bool
is_feed b = nat_eq b 10

-- the first LF is the header's
pub feed_place : (header rest : List ℕ) → IsHeader header → position_or_len is_feed (header ++ rest) ≡ position_or_len is_feed header
feed_place header rest one =
    let at = position_or_len is_feed header in
    let within : at < length header = omega arith in
    position_or_len_is is_feed (header ++ rest) at 0 (omega (arith, length-append header rest))
    (λ k lt. let inside : k < length header = omega arith in ap is_feed (get_or_append_left header rest 0 k inside) ∙ fails_before_first is_feed header k 0 lt)
    (λ lt. ap is_feed (get_or_append_left header rest 0 at within) ∙ passes_at_first is_feed header 0 within)

pub header_found : (header rest : List ℕ) → IsHeader header → has_header (header ++ rest) ≡ true
header_found header rest one = lt-ltb _ _ (omega (arith, feed_place header rest one, length-append header rest))

pub header_length : (header rest : List ℕ) → IsHeader header → length header ≡ header_len (header ++ rest)
header_length header rest one = one ∙ ap (λ n. n + 1) (sym (feed_place header rest one))

-- chunks of one timing file have one list of delays and lengths
timed_same : (lines : List (List ℕ)) (a b : List Chunk) → AreTimed lines a → AreTimed lines b → All IsWithinLimits a
    → All IsWithinLimits b → map entry_for a ≡ map entry_for b
timed_same [] [] [] p q within within' = refl
timed_same [] [] (d ∷ ds) p q within within' = absurd q
timed_same [] (c ∷ cs) b p q within within' = absurd p
timed_same (text ∷ rest) [] b p q within within' = absurd p
timed_same (text ∷ rest) (c ∷ cs) [] p q within within' = absurd q
timed_same (text ∷ rest) (c ∷ cs) (d ∷ ds) p q within within' =
    let one = timing_line_read text (entry_for c) p.0 (All-head IsWithinLimits c cs within) in
    let other = timing_line_read text (entry_for d) q.0 (All-head IsWithinLimits d ds within') in
    let same : entry_for c ≡ entry_for d = cc in
    let more = timed_same rest cs ds p.1 q.1 (All-tail IsWithinLimits c cs within) (All-tail IsWithinLimits d ds within') in
    cc

-- one text is cut in one way into chunks of given lengths and what follows them
same_chunk : (c d : Chunk) → c.delay ≡ d.delay → c.bytes ≡ d.bytes → c ≡ d
same_chunk c d delays bytes =
    ap (λ x. let r : Chunk = record { delay = x; bytes = c.bytes } in r) delays ∙ ap (λ x. let r : Chunk = record { delay = d.delay; bytes = x } in r) bytes

cut_same : (a b : List Chunk) (s t : List ℕ) → map entry_for a ≡ map entry_for b → body a ++ s ≡ body b ++ t → (a ≡ b) × (s ≡ t)
cut_same [] [] s t are joined = (refl, joined)
cut_same [] (d ∷ ds) s t are joined = absurd (cc)
cut_same (c ∷ cs) [] s t are joined = absurd (cc)
cut_same (c ∷ cs) (d ∷ ds) s t are joined =
    let same : entry_for c ≡ entry_for d = cc in
    let more : map entry_for cs ≡ map entry_for ds = cc in
    let long = ap (λ e. e.count) same in
    let text = sym (append_assoc c.bytes (body cs) s) ∙ joined ∙ append_assoc d.bytes (body ds) t in
    let bytes : c.bytes ≡ d.bytes = sym (take_at c.bytes (body cs ++ s) (length c.bytes) refl) ∙ ap (take (length c.bytes)) text ∙ take_at d.bytes (body ds ++ t) (length c.bytes) (sym long) in
    let behind : body cs ++ s ≡ body ds ++ t = sym (drop_at c.bytes (body cs ++ s) (length c.bytes) refl) ∙ ap (drop (length c.bytes)) text ∙ drop_at d.bytes (body ds ++ t) (length c.bytes) (sym long) in
    let rest = cut_same cs ds s t more behind in
    let first : c ≡ d = same_chunk c d (ap (λ e. e.delay) same) bytes in
    (ap (λ x. x ∷ cs) first ∙ ap (λ xs. d ∷ xs) rest.0, rest.1)

-- the limits of a recording are those of its entries
pub limits_of : (tape : Tape) → fits tape → All IsWithinLimits tape.chunks
limits_of tape fit k d lt = record { delay = fit.delays k d lt; count = fit.lengths k d lt }

-- a pair of files is read as one recording
pub reads_once : (script timing : List ℕ) (a b : Tape) → reads script timing a → reads script timing b → a ≡ b
reads_once script timing a b r s =
    let one : script ≡ a.header ++ (body a.chunks ++ a.trailer) = r.joined ∙ append_assoc a.header (body a.chunks) a.trailer in
    let other : script ≡ b.header ++ (body b.chunks ++ b.trailer) = s.joined ∙ append_assoc b.header (body b.chunks) b.trailer in
    let here = header_length a.header (body a.chunks ++ a.trailer) r.fitting.header ∙ ap header_len (sym one) in
    let there = header_length b.header (body b.chunks ++ b.trailer) s.fitting.header ∙ ap header_len (sym other) in
    let header : a.header ≡ b.header =
    sym (take_at a.header (body a.chunks ++ a.trailer) (header_len script) here) ∙ ap (take (header_len script)) (sym one ∙ other) ∙ take_at b.header (body b.chunks ++ b.trailer) (header_len script) there in
    let behind : body a.chunks ++ a.trailer ≡ body b.chunks ++ b.trailer =
    sym (drop_at a.header (body a.chunks ++ a.trailer) (header_len script) here) ∙ ap (drop (header_len script)) (sym one ∙ other) ∙ drop_at b.header (body b.chunks ++ b.trailer) (header_len script) there in
    let entries = timed_same (timed_lines timing) a.chunks b.chunks r.timed s.timed (limits_of a r.fitting) (limits_of b s.fitting) in
    let cut = cut_same a.chunks b.chunks a.trailer b.trailer entries behind in
    let tape = λ (h : List ℕ) (cs : List Chunk) (t : List ℕ). let x : Tape = record { header = h; chunks = cs; trailer = t } in x in
    ap (λ h. tape h a.chunks a.trailer) header ∙ ap (λ cs. tape b.header cs a.trailer) cut.0 ∙ ap (λ t. tape b.header b.chunks t) cut.1

-- what is written has no fault
written_sound : (tape : Tape) → fits tape → fault_of (script_text tape) (timing_text tape) ≡ None
unfolding fault_of script_text timing_text
written_sound tape fit =
    let within = limits_of tape fit in
    let lines = written_lines tape.chunks within in
    let script = tape.header ++ body tape.chunks ++ tape.trailer in
    let grouped = append_assoc tape.header (body tape.chunks) tape.trailer in
    let found : has_header script ≡ true = ap has_header grouped ∙ header_found tape.header (body tape.chunks ++ tape.trailer) fit.header in
    let behind : length tape.header ≡ header_len script = header_length tape.header (body tape.chunks ++ tape.trailer) fit.header ∙ ap header_len (sym grouped) in
    let entries = ap entries_of lines ∙ written_entries tape.chunks within in
    let faultless : timing_fault (timing_text tape) ≡ None =
    ap (first_fault []) lines ∙ written_faultless [] tape.chunks [] refl within (omega (arith, fit.few)) (omega (arith, fit.bytes)) in
    let long = ap length grouped ∙ length-append tape.header (body tape.chunks ++ tape.trailer) ∙ ap (λ n. length tape.header + n) (length-append (body tape.chunks) tape.trailer) in
    let enough = never_short (length script - header_len script) (map entry_for tape.chunks) (omega (arith, counted_for tape.chunks, body_length tape.chunks, long, behind)) in
    rw (faultless, entries, found, enough) refl

-- what is written is read as the recording that was written
pub written_reads : (tape : Tape) → fits tape → reads (script_text tape) (timing_text tape) tape
unfolding script_text timing_text
written_reads tape fit = record {
  faultless = written_sound tape fit;
  fitting = fit;
  timed = rw (written_lines tape.chunks (limits_of tape fit)) (written_timed tape.chunks (limits_of tape fit));
  joined = refl;
}
