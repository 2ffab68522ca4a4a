-- The script is cut line by line of the timing.
use Rattle.std.proofs.Common.{◌≡◌, ℕ, ◌+◌, ◌-◌, ◌<◌, ◌≤◌, List, [], ◌∷◌, ◌++◌, length, take, drop, map, Some, None, Ok, ap, sym, ◌∙◌, arith, inl, inr, length-append, append-nil, subst}
use Rattle.std.proofs.lemmas.Bool.{cases_lt}
use Rattle.std.proofs.lemmas.List.{take_all, take-append-le, length-take, length-drop, length-map, map-append, flat_map_more, drop-drop}
use Rattle.std.proofs.lemmas.List.Sums.{sum_by_push}
use Rattle.std.proofs.Math.Seq.{take-add, take-append_seam}
use Rattle.tape_core.specs.declared.chunk.Chunk.{Chunk}
use Rattle.tape_core.specs.declared.timing.Entry.{Entry}
use Rattle.tape_core.specs.declared.fault.Fault.{Fault}
use Rattle.tape_core.specs.Tape.{body}
use Rattle.tape_core.specs.Timing.{counted_bytes, entries_of, entry_of, fault_of_line, first_fault, timing_fault}
use Rattle.tape_core.specs.Steps.{FitsAfter, IsCut, entry_for}
use Rattle.tape_core.specs.Text.{lines_of}
use Rattle.tape_core.specs.Reading.{first_short}
use Rattle.tape_core.proofs.ReadingLemmas.{short_at}
use Rattle.tape_core.proofs.TimingLemmas.{ReadSoFar, line_blank, line_faulty, line_timed}

-- chunk i of these entries is the first that needs more bytes than there are
pub record ShortAt (bytes : ℕ) (entries : List Entry) (i : ℕ) : Type 0 where
  pub within : i < length entries
  pub before : counted_bytes (take i entries) ≤ bytes
  pub here : bytes < counted_bytes (take (i + 1) entries)

-- it stays so where further entries come
still_short : (bytes : ℕ) (entries : List Entry) (e : Entry) (i : ℕ) → ShortAt bytes entries i → ShortAt bytes (entries ++ e ∷ []) i
still_short bytes entries e i s = record {
  within = omega (arith, s.within, length-append entries (e ∷ []));
  before = rw (take-append-le i entries (e ∷ []) (omega (arith, s.within))) s.before;
  here = rw (take-append-le (i + 1) entries (e ∷ []) (omega (arith, s.within))) s.here;
}

-- the last of some entries is the first that needs more
last_short : (bytes : ℕ) (entries : List Entry) (e : Entry) → counted_bytes entries ≤ bytes → bytes < counted_bytes entries + e.count
    → ShortAt bytes (entries ++ e ∷ []) (length entries)
last_short bytes entries e le short = record {
  within = omega (arith, length-append entries (e ∷ []));
  before = rw (take-append_seam entries (e ∷ [])) le;
  here = rw (take_all (length entries + 1) (entries ++ e ∷ []) (omega (arith, length-append entries (e ∷ []))), sum_by_push (λ x. x.count) entries e) short;
}

-- Some lines of the timing are read. As long as there are bytes enough behind a place of the script, the chunks are what
-- the entries so far cut out of them; from the first short chunk on no chunk comes.
pub record CutSoFar (script : List ℕ) (start : ℕ) (timing rest : List ℕ) (chunks : List Chunk) (count bytes line : ℕ) : Type 0 where
  pub entries : List Entry
  pub read : ReadSoFar timing rest entries bytes line
  pub number : count ≡ length entries
  pub timed : bytes ≤ length script - start → map entry_for chunks ≡ entries
  pub joined : bytes ≤ length script - start → body chunks ≡ take bytes (drop start script)
  pub short : length script - start < bytes → ShortAt (length script - start) entries (length chunks)

module _ (script : List ℕ) (start : ℕ) (timing rest after text : List ℕ) (chunks : List Chunk) (count bytes line : ℕ)
    (c : CutSoFar script start timing rest chunks count bytes line) (cut : lines_of rest ≡ text ∷ lines_of after) where
  -- the next line's fault is the timing's
  pub cut_faulty : (f : Fault) → fault_of_line (line + 1) count bytes (entry_of text) ≡ Some f → timing_fault timing ≡ Some f
  cut_faulty f faulty =
      line_faulty timing rest after text c.entries bytes line c.read cut f (rw (← c.number) faulty)

  pub cut_blank : length after < length rest → entry_of text ≡ Ok None → CutSoFar script start timing after chunks count bytes (line + 1)
  cut_blank shorter blank = record {
    entries = c.entries;
    read = line_blank timing rest after text c.entries bytes line c.read cut shorter blank;
    number = c.number;
    timed = c.timed;
    joined = c.joined;
    short = c.short;
  }

  module _ (e : Entry) (shorter : length after < length rest) (timed : entry_of text ≡ Ok (Some e)) (fits : FitsAfter count bytes e) where
    read_next : ReadSoFar timing after (c.entries ++ e ∷ []) (bytes + e.count) (line + 1)
    read_next = line_timed timing rest after text c.entries bytes line c.read cut e shorter timed (rw (← c.number) fits)

    number_next : count + 1 ≡ length (c.entries ++ e ∷ [])
    number_next = omega (arith, c.number, length-append c.entries (e ∷ []))

    -- the entry's chunk stands in the script
    pub cut_more : (start + bytes) + e.count ≤ length script
        → CutSoFar script start timing after
        (chunks ++ (record { delay = e.delay; bytes = take e.count (drop (start + bytes) script) }) ∷ []) (count + 1) (bytes + e.count) (line + 1)
    cut_more enough =
        let piece = take e.count (drop (start + bytes) script) in
        let chunk : Chunk = record { delay = e.delay; bytes = piece } in
        let room : bytes ≤ length script - start = omega (arith, enough) in
        let long : length piece ≡ e.count = omega (arith, enough, length-take e.count (drop (start + bytes) script), length-drop (start + bytes) script) in
        record {
          entries = c.entries ++ e ∷ [];
          read = read_next;
          number = number_next;
          timed = λ _. map-append entry_for chunks (chunk ∷ []) ∙ ap (λ es. es ++ entry_for chunk ∷ []) (c.timed room)
              ∙ ap (λ n. c.entries ++ (record { delay = e.delay; count = n }) ∷ []) long;
          joined = λ _. sym (flat_map_more (λ x. x.bytes) [] chunks chunk) ∙ ap (λ x. x ++ piece) (c.joined room)
              ∙ ap (λ x. take bytes (drop start script) ++ take e.count x) (sym (drop-drop bytes start script)) ∙ sym (take-add bytes e.count (drop start script));
          short = λ h. absurd (omega (arith, h, enough));
        }

    -- the entry's chunk, or one before it, is short
    pub cut_short : length script - start < bytes + e.count → CutSoFar script start timing after chunks (count + 1) (bytes + e.count) (line + 1)
    cut_short less = record {
      entries = c.entries ++ e ∷ [];
      read = read_next;
      number = number_next;
      timed = λ h. absurd (omega (arith, h, less));
      joined = λ h. absurd (omega (arith, h, less));
      short = λ _. elim (cases_lt (length script - start) bytes) [
        | inl lt ↦ still_short (length script - start) c.entries e (length chunks) (c.short lt)
        | inr ge ↦
            let same = c.timed (omega (arith, ge)) in
            let places : length c.entries ≡ length chunks = ap length (sym same) ∙ length-map chunks entry_for in
            subst (ShortAt (length script - start) (c.entries ++ e ∷ [])) places
            (last_short (length script - start) c.entries e (omega (arith, ge, c.read.counted)) (omega (arith, less, c.read.counted)))
      ];
    }

-- the whole timing is read
pub is_cut : (script : List ℕ) (start : ℕ) (timing rest : List ℕ) (chunks : List Chunk) (count bytes line : ℕ)
    → CutSoFar script start timing rest chunks count bytes line → rest ≡ [] → IsCut script start timing chunks bytes
is_cut script start timing rest chunks count bytes line c end =
    let r = c.read in
    let all : lines_of timing ≡ r.before = r.cut ∙ ap (λ t. r.before ++ lines_of t) end ∙ append-nil r.before in
    let read : entries_of (lines_of timing) ≡ c.entries = ap entries_of all ∙ sym r.read in
    record {
      faultless = r.fault ∙ ap (λ t. first_fault r.before (lines_of t)) end;
      within = rw read r.within;
      counted = r.counted ∙ ap counted_bytes (sym read);
      timed = λ h. c.timed h ∙ sym read;
      joined = c.joined;
      short = λ h. let s = c.short h in
          ap (first_short (length script - start)) read ∙ short_at (length script - start) c.entries (length chunks) s.within s.before s.here;
    }
