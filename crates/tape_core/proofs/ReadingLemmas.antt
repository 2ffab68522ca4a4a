-- Where the script ends inside a chunk, and what is read of parts that are cut as the timing counts.
use Rattle.std.proofs.Common.{◌≡◌, ◌==◌, All, ℕ, ◌+◌, ◌-◌, ◌<◌, ◌≤◌, Bool, true, false, List, [], ◌++◌, length, get_or, take, drop, map, Some, None, nat_lt, refl, ap, sym, ◌∙◌, arith, zero-add, subst, append_assoc}
use Rattle.std.specs.List.{position_or_len, range_with_len}
use Rattle.std.proofs.lemmas.Bool.{lt-ltb, le-ltb, ltb-true}
use Rattle.std.proofs.lemmas.List.{take-take, take_all, get_or-take, length-take, length-drop, length-map, take-append-drop, drop-drop}
use Rattle.std.proofs.Math.ListN.{get_or-map}
use Rattle.std.proofs.lemmas.List.Concat.{length-flat_map}
use Rattle.std.proofs.lemmas.List.Folds.{fold-map}
use Rattle.std.proofs.lemmas.List.FromFn.{get_or-range_with_len}
use Rattle.std.proofs.lemmas.List.Sums.{position_or_len_is, sum_by-take-le, fails_before_first, passes_at_first}
use Rattle.tape_core.specs.declared.chunk.Chunk.{Chunk}
use Rattle.tape_core.specs.declared.timing.Entry.{Entry}
use Rattle.tape_core.specs.Tape.{IsHeader, body, body_len}
use Rattle.tape_core.specs.Timing.{IsWithin, counted_bytes, entries_of}
use Rattle.tape_core.specs.Steps.{IsCut, entry_for}
use Rattle.tape_core.specs.Text.{lines_of}
use Rattle.tape_core.specs.Reading.{fault_of, first_short, has_header, header_len, reads}
use Rattle.tape_core.proofs.DueLemmas.{length_range}
use Rattle.tape_core.proofs.LineLemmas.{timed_chunks}

-- the chunks hold what their entries count
pub counted_for : (chunks : List Chunk) → counted_bytes (map entry_for chunks) ≡ body_len chunks
counted_for chunks = fold-map (λ n e. n + e.count) entry_for 0 chunks

pub body_length : (chunks : List Chunk) → length (body chunks) ≡ body_len chunks
body_length chunks = length-flat_map (λ c. c.bytes) chunks

-- whether chunk i needs more bytes than there are
abbrev is_short : ℕ → List Entry → ℕ → Bool
is_short bytes entries i = nat_lt bytes (counted_bytes (take (i + 1) entries))

module _ (bytes : ℕ) (entries : List Entry) where
  fits_before : (k i : ℕ) → k < i → counted_bytes (take i entries) ≤ bytes → is_short bytes entries k ≡ false
  fits_before k i lt le =
      let front : take (k + 1) (take i entries) ≡ take (k + 1) entries = take-take (k + 1) i entries (omega arith) in
      le-ltb bytes (counted_bytes (take (k + 1) entries)) (omega (arith, sum_by-take-le (λ e. e.count) (take i entries) (k + 1), ap counted_bytes front))

  -- the first index at which a test on indices passes
  place_at : (i : ℕ) → i ≤ length entries → ((k : ℕ) → k < i → is_short bytes entries k ≡ false)
      → (i < length entries → is_short bytes entries i ≡ true)
      → position_or_len (is_short bytes entries) (range_with_len 0 (length entries)) ≡ i
  place_at i le before here =
      position_or_len_is (is_short bytes entries) (range_with_len 0 (length entries)) i 0 (omega (arith, length_range 0 (length entries)))
      (λ k lt. ap (is_short bytes entries) (get_or-range_with_len 0 (length entries) k 0 (omega arith) ∙ zero-add k) ∙ before k lt)
      (λ lt. let in_range : i < length entries = omega (arith, length_range 0 (length entries)) in
      ap (is_short bytes entries) (get_or-range_with_len 0 (length entries) i 0 in_range ∙ zero-add i) ∙ here in_range)

  pub short_at : (i : ℕ) → i < length entries → counted_bytes (take i entries) ≤ bytes
      → bytes < counted_bytes (take (i + 1) entries) → first_short bytes entries ≡ Some i
  short_at i lt le short =
      let at = place_at i (omega arith) (λ k h. fits_before k i h le) (λ _. lt-ltb bytes (counted_bytes (take (i + 1) entries)) short) in
      rw (at, length_range 0 (length entries), lt-ltb i (length entries) lt) refl

  pub never_short : counted_bytes entries ≤ bytes → first_short bytes entries ≡ None
  never_short le =
      let all = take_all (length entries) entries (omega arith) in
      let at = place_at (length entries) (omega arith) (λ k h. fits_before k (length entries) h (omega (arith, ap counted_bytes all))) (λ h. absurd (omega arith)) in
      rw (at, length_range 0 (length entries), le-ltb (length entries) (length entries) (omega arith)) refl

module _ (script : List ℕ) (found : has_header script ≡ true) where
  header_within : position_or_len (λ b. b == 10) script < length script
  header_within = ltb-true _ _ found

  -- the first line ends at its only LF
  first_line : IsHeader (take (header_len script) script)
  first_line =
      let at = position_or_len (λ b. b == 10) script in
      let long : length (take (header_len script) script) ≡ header_len script = omega (arith, length-take (header_len script) script, header_within) in
      long ∙ ap (λ n. n + 1) (sym (position_or_len_is (λ b. b == 10) (take (header_len script) script) at 0 (omega (arith, long))
      (λ k lt. ap (λ b. b == 10) (get_or-take (header_len script) script k 0 (omega arith)) ∙ fails_before_first (λ b. b == 10) script k 0 lt)
      (λ lt. ap (λ b. b == 10) (get_or-take (header_len script) script at 0 (omega arith)) ∙ passes_at_first (λ b. b == 10) script 0 header_within)))

-- chunks of entries within the limits are within them
each_within : (chunks : List Chunk) (entries : List Entry) → map entry_for chunks ≡ entries → All IsWithin entries
    → All (λ c. IsWithin (entry_for c)) chunks
each_within chunks entries are within k d lt =
    let more : k < length entries = omega (arith, ap length are, length-map chunks entry_for) in
    let at : get_or entries k (entry_for d) ≡ entry_for (get_or chunks k d) = ap (λ es. get_or es k (entry_for d)) (sym are) ∙ get_or-map entry_for chunks k d in
    subst IsWithin at (within k (entry_for d) more)

-- header, chunks and trailer that are cut so are what the pair of files says
pub reads_parts : (script timing : List ℕ) (start : ℕ) (header trailer : List ℕ) (chunks : List Chunk) (bytes : ℕ)
    → start ≡ header_len script → start ≤ length script → bytes ≤ length script - start → IsCut script start timing chunks bytes
    → header ≡ take start script → trailer ≡ take ((length script - start) - bytes) (drop (start + bytes) script)
    → reads script timing (record { header = header; chunks = chunks; trailer = trailer })
unfolding fault_of
reads_parts script timing start header trailer chunks bytes place found fit cut head tail =
    let entries = entries_of (lines_of timing) in
    let has : has_header script ≡ true = lt-ltb (position_or_len (λ b. b == 10) script) (length script) (omega (arith, place, found)) in
    let each = each_within chunks entries (cut.timed fit) cut.within.each in
    let sum : bytes ≡ body_len chunks = cut.counted ∙ ap counted_bytes (sym (cut.timed fit)) ∙ counted_for chunks in
    let short = never_short (length script - header_len script) entries (omega (arith, fit, place, cut.counted)) in
    let behind = length-drop (start + bytes) script in
    let rest : trailer ≡ drop bytes (drop start script) =
    tail ∙ take_all ((length script - start) - bytes) (drop (start + bytes) script) (omega (arith, behind)) ∙ sym (drop-drop bytes start script) in
    record {
      faultless = rw (cut.faultless, has, short) refl;
      fitting = record {
        header = rw (head, place) (first_line script has);
        few = omega (arith, cut.within.few, ap length (cut.timed fit), length-map chunks entry_for);
        delays = λ k d lt. (each k d lt).delay;
        lengths = λ k d lt. (each k d lt).count;
        bytes = omega (arith, cut.within.bytes, sum, cut.counted);
      };
      timed = timed_chunks [] (lines_of timing) chunks cut.faultless (cut.timed fit);
      joined = sym (ap (λ h. h ++ body chunks ++ trailer) head ∙ ap (λ x. take start script ++ x ++ trailer) (cut.joined fit)
          ∙ ap (λ x. take start script ++ take bytes (drop start script) ++ x) rest
          ∙ append_assoc (take start script) (take bytes (drop start script)) (drop bytes (drop start script))
          ∙ ap (λ x. take start script ++ x) (take-append-drop bytes (drop start script)) ∙ take-append-drop start script);
    }
