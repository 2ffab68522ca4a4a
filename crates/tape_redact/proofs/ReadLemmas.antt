-- Scripts of one length with LF at the same places.
use Rattle.std.proofs.Common.{◌≡◌, ℕ, suc, ◌+◌, ◌-◌, ◌≤◌, Bool, ◌==◌, not, List, [], ◌∷◌, ◌++◌, length, map, drop, take, Some, refl, ap, sym, ◌∙◌, subst, arith, cond, append_assoc, length-append, length-drop, nat_lt}
use Rattle.std.specs.Fmt.{decimal}
use Rattle.std.specs.List.{AllByRecursion, flat_map, position_or_len, prefix_len}
use Rattle.std.specs.Option.{option_map, option_or}
use Rattle.std.proofs.lemmas.List.Sums.{sum_by-cons}
use Rattle.std.proofs.lemmas.List.{drop-drop, length-take, length-take-le, take-append-drop, take-map, take_all, take_at}
use Rattle.std.proofs.lemmas.List.Concat.{length-flat_map}
use Rattle.std.proofs.lemmas.List.Elements.{All-from_recursion, recursion_from_All}
use Rattle.tape_core.specs.declared.chunk.Chunk.{Chunk}
use Rattle.tape_core.specs.declared.fault.Fault.TheVariants as fault
use Rattle.tape_core.specs.Reading.{AreTimed, fault_of, first_short, reads, timed_lines}
use Rattle.tape_core.specs.Tape.{IsHeader, Tape, body, body_len, fits, longest_chunk, longest_delay, most_chunks}
use Rattle.tape_core.specs.Text.{lines_of}
use Rattle.tape_core.specs.Timing.{TimingLine, entries_of, timing_fault}
use Rattle.tape_core.specs.Written.{script_text, seconds_form, timing_line_of, timing_text}
use Rattle.tape_redact.specs.Law.{ReadsAlike, SameLines, TimesStay, WrittenAnew}
use Rattle.tape_redact.specs.Recording.{cut, recut}

-- ---- the first LF

prefix_by_map : (p : ℕ → Bool) (xs : List ℕ) → position_or_len p xs ≡ prefix_len not (map p xs)
prefix_by_map p [] = refl
prefix_by_map p (x ∷ xs) = ap (λ n. cond (not (p x)) (1 + n) 0) (prefix_by_map p xs)

abbrev lf : ℕ → Bool
lf b = b == 10

first_lf : (old new : List ℕ) → map lf new ≡ map lf old → position_or_len lf new ≡ position_or_len lf old
first_lf old new h = prefix_by_map lf new ∙ ap (prefix_len not) h ∙ sym (prefix_by_map lf old)

faults : (old new timing : List ℕ) → SameLines old new → fault_of new timing ≡ fault_of old timing
unfolding fault_of
faults old new timing same =
    let at = first_lf old new same.ends in
    let entries = entries_of (lines_of timing) in
    ap (option_or (timing_fault timing))
    (ap (λ n. cond (nat_lt n (length new)) (option_map fault.ScriptShort (first_short (length new - (n + 1)) entries)) (Some fault.NoHeader)) at
    ∙ ap (λ m. cond (nat_lt (position_or_len lf old) m) (option_map fault.ScriptShort (first_short (m - (position_or_len lf old + 1)) entries)) (Some fault.NoHeader)) same.long)

-- ---- bytes cut as chunks

body_length : (cs : List Chunk) → length (body cs) ≡ body_len cs
body_length cs = length-flat_map (λ (c : Chunk). c.bytes) cs

cut_joins : (cs : List Chunk) (bytes : List ℕ) → body (cut cs bytes) ++ drop (length (body cs)) bytes ≡ bytes
cut_joins [] bytes = refl
cut_joins (c ∷ cs) bytes =
    let n = length c.bytes in
    let rest = drop n bytes in
    let parts : n + length (body cs) ≡ length (body (c ∷ cs)) = sym (length-append c.bytes (body cs)) in
    append_assoc (take n bytes) (body (cut cs rest)) (drop (length (body (c ∷ cs))) bytes)
    ∙ ap (λ m. take n bytes ++ (body (cut cs rest) ++ drop m bytes)) (sym parts)
    ∙ ap (λ l. take n bytes ++ (body (cut cs rest) ++ l)) (sym (drop-drop (length (body cs)) n bytes))
    ∙ ap (λ l. take n bytes ++ l) (cut_joins cs rest)
    ∙ take-append-drop n bytes

cut_len : (cs : List Chunk) (bytes : List ℕ) → length (cut cs bytes) ≡ length cs
cut_len [] bytes = refl
cut_len (c ∷ cs) bytes = ap (λ n. suc n) (cut_len cs (drop (length c.bytes) bytes))

cut_delays : (cs : List Chunk) (bytes : List ℕ) → map (λ (c : Chunk). c.delay) (cut cs bytes) ≡ map (λ (c : Chunk). c.delay) cs
cut_delays [] bytes = refl
cut_delays (c ∷ cs) bytes = ap (λ l. c.delay ∷ l) (cut_delays cs (drop (length c.bytes) bytes))

-- enough bytes leave the counts
cut_counts : (cs : List Chunk) (bytes : List ℕ) → length (body cs) ≤ length bytes → map (λ (c : Chunk). length c.bytes) (cut cs bytes) ≡ map (λ (c : Chunk). length c.bytes) cs
cut_counts [] bytes h = refl
cut_counts (c ∷ cs) bytes h =
    let n = length c.bytes in
    let parts = length-append c.bytes (body cs) in
    let enough : n ≤ length bytes = omega (arith, parts) in
    let more : length (body cs) ≤ length (drop n bytes) = omega (arith, parts, length-drop n bytes) in
    ap (λ m. m ∷ map (λ (c : Chunk). length c.bytes) (cut cs (drop n bytes))) (length-take-le n bytes enough)
    ∙ ap (λ l. n ∷ l) (cut_counts cs (drop n bytes) more)

cut_short : (cs : List Chunk) (bytes : List ℕ) → body_len (cut cs bytes) ≤ body_len cs
cut_short [] bytes = omega arith
cut_short (c ∷ cs) bytes =
    let n = length c.bytes in
    let rest = cut_short cs (drop n bytes) in
    grind (arith, rest, sum_by-cons (λ (c : Chunk). length c.bytes) c cs, sum_by-cons (λ (c : Chunk). length c.bytes) (record c { bytes = take n bytes }) (cut cs (drop n bytes)), length-take n bytes)

delays_fit : (cs : List Chunk) (bytes : List ℕ) → AllByRecursion (λ (c : Chunk). c.delay ≤ longest_delay) cs → AllByRecursion (λ (c : Chunk). c.delay ≤ longest_delay) (cut cs bytes)
delays_fit [] bytes h = tt
delays_fit (c ∷ cs) bytes h = (h.0, delays_fit cs (drop (length c.bytes) bytes) h.1)

lengths_fit : (cs : List Chunk) (bytes : List ℕ) → AllByRecursion (λ (c : Chunk). length c.bytes ≤ longest_chunk) cs → AllByRecursion (λ (c : Chunk). length c.bytes ≤ longest_chunk) (cut cs bytes)
lengths_fit [] bytes h = tt
lengths_fit (c ∷ cs) bytes h =
    let shorter : length (take (length c.bytes) bytes) ≤ longest_chunk = grind (arith, h.0, length-take (length c.bytes) bytes) in
    (shorter, lengths_fit cs (drop (length c.bytes) bytes) h.1)

timed_alike : (lines : List (List ℕ)) (cs ds : List Chunk) → map (λ (c : Chunk). c.delay) ds ≡ map (λ (c : Chunk). c.delay) cs
    → map (λ (c : Chunk). length c.bytes) ds ≡ map (λ (c : Chunk). length c.bytes) cs → AreTimed lines cs → AreTimed lines ds
timed_alike [] [] [] d n h = h
timed_alike [] [] (e ∷ ds) d n h = cc
timed_alike [] (c ∷ cs) ds d n h = absurd h
timed_alike (line ∷ lines) [] ds d n h = absurd h
timed_alike (line ∷ lines) (c ∷ cs) [] d n h = cc
timed_alike (line ∷ lines) (c ∷ cs) (e ∷ ds) d n h =
    let delay : e.delay ≡ c.delay = cc in
    let count : length e.bytes ≡ length c.bytes = cc in
    let delays : map (λ (c : Chunk). c.delay) ds ≡ map (λ (c : Chunk). c.delay) cs = cc in
    let counts : map (λ (c : Chunk). length c.bytes) ds ≡ map (λ (c : Chunk). length c.bytes) cs = cc in
    (subst (λ m. TimingLine line e.delay m) (sym count) (subst (λ m. TimingLine line m (length c.bytes)) (sym delay) h.0), timed_alike lines cs ds delays counts h.1)

-- one chunk more
pub cut_more : (cs : List Chunk) (c : Chunk) (bytes : List ℕ) → cut (cs ++ c ∷ []) bytes ≡ cut cs bytes ++ (record c { bytes = take (length c.bytes) (drop (body_len cs) bytes) }) ∷ []
cut_more [] c bytes = refl
cut_more (b ∷ cs) c bytes =
    let n = length b.bytes in
    let rest = drop n bytes in
    let longer : n + body_len cs ≡ body_len (b ∷ cs) = sym (sum_by-cons (λ (x : Chunk). length x.bytes) b cs) in
    ap (λ l. record b { bytes = take n bytes } ∷ l)
    (cut_more cs c rest
    ∙ ap (λ l. cut cs rest ++ (record c { bytes = take (length c.bytes) l }) ∷ []) (drop-drop (body_len cs) n bytes ∙ ap (λ m. drop m bytes) longer))

-- ---- the recording

module _ (old new : List ℕ) (tape : Tape) (same : SameLines old new) (joined : old ≡ tape.header ++ body tape.chunks ++ tape.trailer) where
  whole : length old ≡ length tape.header + length (body tape.chunks) + length tape.trailer
  whole = ap (λ (l : List ℕ). length l) joined ∙ length-append (tape.header ++ body tape.chunks) tape.trailer
      ∙ ap (λ n. n + length tape.trailer) (length-append tape.header (body tape.chunks))

  -- header and chunks end within it
  pub ends_within : length tape.header + body_len tape.chunks ≤ length new
  ends_within = omega (arith, whole, same.long, body_length tape.chunks)

  head_len : length (take (length tape.header) new) ≡ length tape.header
  head_len = length-take-le (length tape.header) new (omega (arith, ends_within))

  enough : length (body tape.chunks) ≤ length (drop (length tape.header) new)
  enough = omega (arith, whole, same.long, length-drop (length tape.header) new)

  counts_of : map (λ (c : Chunk). length c.bytes) (recut tape new).chunks ≡ map (λ (c : Chunk). length c.bytes) tape.chunks
  counts_of = cut_counts tape.chunks (drop (length tape.header) new) enough

  header_again : take (length tape.header) old ≡ tape.header
  header_again = ap (take (length tape.header)) (joined ∙ append_assoc tape.header (body tape.chunks) tape.trailer)
      ∙ take_at tape.header (body tape.chunks ++ tape.trailer) (length tape.header) refl

  is_header : IsHeader tape.header → IsHeader (take (length tape.header) new)
  is_header was =
      let n = length tape.header in
      let ends : map lf (take n new) ≡ map lf (take n old) =
      sym (take-map lf n new) ∙ ap (take n) same.ends ∙ take-map lf n old in
      head_len ∙ was
      ∙ ap (λ l. position_or_len lf l + 1) (sym header_again)
      ∙ ap (λ m. m + 1) (sym (first_lf (take n old) (take n new) ends))

  pub fits_again : fits tape → fits (recut tape new)
  fits_again fitting = record {
    header = is_header fitting.header;
    few = subst (λ n. n ≤ most_chunks) (sym (cut_len tape.chunks (drop (length tape.header) new))) fitting.few;
    delays = All-from_recursion (λ (c : Chunk). c.delay ≤ longest_delay) (recut tape new).chunks (delays_fit tape.chunks (drop (length tape.header) new) (recursion_from_All (λ (c : Chunk). c.delay ≤ longest_delay) tape.chunks fitting.delays));
    lengths = All-from_recursion (λ (c : Chunk). length c.bytes ≤ longest_chunk) (recut tape new).chunks (lengths_fit tape.chunks (drop (length tape.header) new) (recursion_from_All (λ (c : Chunk). length c.bytes ≤ longest_chunk) tape.chunks fitting.lengths));
    bytes = omega (arith, cut_short tape.chunks (drop (length tape.header) new), fitting.bytes);
  }

-- its parts joined are the script
joined_again : (tape : Tape) (script : List ℕ) → (recut tape script).header ++ body (recut tape script).chunks ++ (recut tape script).trailer ≡ script
joined_again tape script =
    let n = length tape.header in
    append_assoc (take n script) (body (recut tape script).chunks) (recut tape script).trailer
    ∙ ap (λ l. take n script ++ l) (cut_joins tape.chunks (drop n script))
    ∙ take-append-drop n script

module _ (old new timing : List ℕ) (tape : Tape) (same : SameLines old new) (read : reads old timing tape) where
  counts : map (λ (c : Chunk). length c.bytes) (recut tape new).chunks ≡ map (λ (c : Chunk). length c.bytes) tape.chunks
  counts = counts_of old new tape same read.joined

  recording : reads new timing (recut tape new)
  recording = record {
    faultless = faults old new timing same ∙ read.faultless;
    fitting = fits_again old new tape same read.joined read.fitting;
    timed = timed_alike (timed_lines timing) tape.chunks (recut tape new).chunks (cut_delays tape.chunks (drop (length tape.header) new)) counts read.timed;
    joined = sym (joined_again tape new);
  }

pub reads_alike : ReadsAlike
reads_alike = record { faults = faults; recordings = recording }

pub times_stay : TimesStay
times_stay = record { delays = cut_delays; counts = counts }

-- ---- both files of it

pub script_again : (tape : Tape) (script : List ℕ) → script_text (recut tape script) ≡ script
unfolding script_text
script_again tape script = joined_again tape script

lines_alike : (cs ds : List Chunk) → map (λ (c : Chunk). c.delay) ds ≡ map (λ (c : Chunk). c.delay) cs
    → map (λ (c : Chunk). length c.bytes) ds ≡ map (λ (c : Chunk). length c.bytes) cs → flat_map timing_line_of ds ≡ flat_map timing_line_of cs
lines_alike [] [] d n = refl
lines_alike [] (e ∷ ds) d n = cc
lines_alike (c ∷ cs) [] d n = cc
lines_alike (c ∷ cs) (e ∷ ds) d n =
    let delay : e.delay ≡ c.delay = cc in
    let count : length e.bytes ≡ length c.bytes = cc in
    let delays : map (λ (x : Chunk). x.delay) ds ≡ map (λ (x : Chunk). x.delay) cs = cc in
    let counts' : map (λ (x : Chunk). length x.bytes) ds ≡ map (λ (x : Chunk). length x.bytes) cs = cc in
    let line : timing_line_of e ≡ timing_line_of c =
    ap (λ m. seconds_form m ++ 32 ∷ decimal (length e.bytes) ++ 10 ∷ []) delay ∙ ap (λ m. seconds_form c.delay ++ 32 ∷ decimal m ++ 10 ∷ []) count in
    ap (λ l. l ++ flat_map timing_line_of ds) line ∙ ap (λ l. timing_line_of c ++ l) (lines_alike cs ds delays counts')

pub timing_again : (tape : Tape) (script : List ℕ) → length script ≡ length (script_text tape) → timing_text (recut tape script) ≡ timing_text tape
unfolding script_text timing_text
timing_again tape script long =
    let rest = drop (length tape.header) script in
    let parts = length-append (tape.header ++ body tape.chunks) tape.trailer ∙ ap (λ n. n + length tape.trailer) (length-append tape.header (body tape.chunks)) in
    let enough' : length (body tape.chunks) ≤ length rest = omega (arith, long, parts, length-drop (length tape.header) script) in
    lines_alike tape.chunks (cut tape.chunks rest) (cut_delays tape.chunks rest) (cut_counts tape.chunks rest enough')

pub written_anew : WrittenAnew
written_anew = record { script = script_again; timing = timing_again }

-- ---- its parts

pub script_is : (tape : Tape) → script_text tape ≡ tape.header ++ body tape.chunks ++ tape.trailer
unfolding script_text
script_is tape = refl

module _ (tape : Tape) (script : List ℕ) where
  pub trailer_cut : (start count len : ℕ) → start ≡ length tape.header → count ≡ body_len tape.chunks → len ≡ length script
      → take (len - (start + count)) (drop (start + count) script) ≡ (recut tape script).trailer
  trailer_cut start count len s c l =
      take_all (len - (start + count)) (drop (start + count) script) (omega (arith, l, length-drop (start + count) script))
      ∙ ap (λ m. drop (m + count) script) s
      ∙ ap (λ n. drop (length tape.header + n) script) (c ∙ sym (body_length tape.chunks))
      ∙ sym (drop-drop (length (body tape.chunks)) (length tape.header) script)

  pub same_parts : (header trailer : List ℕ) (chunks : List Chunk) → header ≡ (recut tape script).header → chunks ≡ (recut tape script).chunks
      → trailer ≡ (recut tape script).trailer → (record { header = header; chunks = chunks; trailer = trailer }) ≡ recut tape script
  same_parts header trailer chunks h c t =
      ap (λ (x : List ℕ). record { header = x; chunks = chunks; trailer = trailer }) h
      ∙ ap (λ (x : List Chunk). record { header = (recut tape script).header; chunks = x; trailer = trailer }) c
      ∙ ap (λ (x : List ℕ). record { header = (recut tape script).header; chunks = (recut tape script).chunks; trailer = x }) t
