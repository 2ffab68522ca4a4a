-- What lines count fits a recording, and so does what is taken.
use Rattle.std.proofs.Common.{◌≡◌, ℕ, ◌+◌, ◌<◌, ◌≤◌, ◌==◌, Bool, true, false, cond, List, [], ◌∷◌, ◌++◌, length, take, drop, All, Option, Some, None, Result, Ok, Err, nat_le, refl, ap, sym, ◌∙◌, arith, append-nil, length-append, length-take, subst, sum_by}
use Rattle.std.specs.List.{position_or_len}
use Rattle.std.proofs.lemmas.Bool.{leb-false, ltb-true}
use Rattle.std.proofs.lemmas.List.{get_or-take}
use Rattle.std.proofs.lemmas.List.Elements.{All-append, All-cons, All-nil, All-head, All-tail}
use Rattle.std.proofs.lemmas.List.Sums.{fails_before_first, passes_at_first, position_or_len_is, sum_by-append, sum_by-cons, sum_by_push}
use Rattle.tape_core.specs.declared.chunk.Chunk.{Chunk}
use Rattle.tape_core.specs.declared.timing.Entry.{Entry}
use Rattle.tape_core.specs.Reading.{has_header, header_len}
use Rattle.tape_core.specs.Tape.{IsHeader, body_len, fits, longest_body, longest_chunk, longest_delay, most_chunks}
use Rattle.tape_mend.specs.declared.counting.Behind.{Behind}
use Rattle.tape_mend.specs.declared.counting.Piece.{Piece}
use Rattle.tape_mend.specs.declared.counting.Piece.TheVariants as piece
use Rattle.tape_mend.specs.declared.line.Format.{Format}
use Rattle.tape_mend.specs.declared.line.Line.{Line}
use Rattle.tape_mend.specs.declared.line.LineFault.{LineFault}
use Rattle.tape_mend.specs.declared.line.Stream.{Stream}
use Rattle.tape_mend.specs.declared.line.Stream.TheVariants.{Header, Input, Output, Pipe, Resize, Signal}
use Rattle.tape_mend.specs.declared.opening.Header.{Header as How}
use Rattle.tape_mend.specs.Counting.{Logs, are_shared, limited, line_pieces, logs_behind, stream_pieces, with_line}
use Rattle.tape_mend.specs.Front.{Front, at_first, format_of, front, front_of, no_logs}
use Rattle.tape_mend.specs.Lines.{timing_lines}
use Rattle.tape_mend.specs.Mended.{mended, seen}
use Rattle.tape_mend.specs.Steps.{IsPiece, IsSound}
use Rattle.tape_mend.specs.Streams.{said_by}
use Rattle.tape_mend.specs.Taken.{chunk_count, is_chunk, piece_chunks, piece_len, stopped, taken}
use Rattle.tape_mend.proofs.FrontLemmas.{Passes, front_ended, front_more, passes, sound_more, sound_with}

-- the pieces are those that lines count which come to this
pub record Counts (pieces : List Piece) (behind : Behind) : Type 0 where
  pub chunks : chunk_count pieces ≡ behind.outputs
  pub bytes : sum_by piece_len pieces ≡ behind.bytes
  pub each : All IsPiece pieces
  pub sound : IsSound behind

none_more : (pieces : List Piece) → pieces ++ [] ≡ pieces
none_more pieces = append-nil pieces

counts_with : (pieces : List Piece) (behind : Behind) (shared : Bool) (stream : Stream) (delay count : ℕ) → Counts pieces behind
    → Passes behind shared (record { stream = stream; delay = delay; count = count })
    → Counts (pieces ++ stream_pieces shared (behind.waited + delay) count stream)
    (with_line behind shared (Some (record { stream = stream; delay = delay; count = count })))
counts_with pieces behind shared Output delay count s p =
    let e : Entry = record { delay = behind.waited + delay; count = count } in
    record {
      chunks = omega (arith, sum_by-append (λ x. cond (is_chunk x) 1 0) pieces (piece.Output e ∷ []), s.chunks);
      bytes = omega (arith, sum_by-append piece_len pieces (piece.Output e ∷ []), s.bytes);
      each = All-append IsPiece pieces (piece.Output e ∷ []) s.each (All-cons IsPiece (piece.Output e) [] (p.delay, p.count) (All-nil IsPiece));
      sound = sound_with behind shared Output delay count s.sound p;
    }
counts_with pieces behind true Input delay count s p = record {
  chunks = omega (arith, sum_by-append (λ x. cond (is_chunk x) 1 0) pieces (piece.Input count ∷ []), s.chunks);
  bytes = omega (arith, sum_by-append piece_len pieces (piece.Input count ∷ []), s.bytes);
  each = All-append IsPiece pieces (piece.Input count ∷ []) s.each (All-cons IsPiece (piece.Input count) [] p.count (All-nil IsPiece));
  sound = sound_with behind true Input delay count s.sound p;
}
counts_with pieces behind false Input delay count s p = rw (none_more pieces) (record {
  chunks = s.chunks;
  bytes = omega (arith, s.bytes);
  each = s.each;
  sound = sound_with behind false Input delay count s.sound p;
})
counts_with pieces behind shared Header delay count s p = rw (none_more pieces) (record {
  chunks = s.chunks;
  bytes = omega (arith, s.bytes);
  each = s.each;
  sound = sound_with behind shared Header delay count s.sound p;
})
counts_with pieces behind shared Signal delay count s p = rw (none_more pieces) (record {
  chunks = s.chunks;
  bytes = omega (arith, s.bytes);
  each = s.each;
  sound = sound_with behind shared Signal delay count s.sound p;
})
counts_with pieces behind shared Pipe delay count s p = rw (none_more pieces) (record {
  chunks = s.chunks;
  bytes = omega (arith, s.bytes);
  each = s.each;
  sound = sound_with behind shared Pipe delay count s.sound p;
})
counts_with pieces behind shared Resize delay count s p = rw (none_more pieces) (record {
  chunks = s.chunks;
  bytes = omega (arith, s.bytes);
  each = s.each;
  sound = sound_with behind shared Resize delay count s.sound p;
})

counts_more : (pieces : List Piece) (behind : Behind) (shared : Bool) (r : Result (Option Line) LineFault) (said : Option Line) → Counts pieces behind
    → limited behind shared r ≡ Ok said → Counts (pieces ++ line_pieces behind shared said) (with_line behind shared said)
counts_more pieces behind shared (Err f) said s h = absurd (cc)
counts_more pieces behind shared (Ok None) said s h =
    let none : said ≡ None = cc in
    rw (none, none_more pieces) (record {
      chunks = s.chunks;
      bytes = s.bytes;
      each = s.each;
      sound = sound_more behind shared (Ok None) None s.sound refl;
    })
counts_more pieces behind shared (Ok (Some line)) said s h =
    let p = passes behind shared line said h in
    rw (p.0) (counts_with pieces behind shared line.stream line.delay line.count s p.1)

abbrev FrontCounts : Front → Type 0
FrontCounts f = Counts f.pieces f.behind

front_counts : (format : Format) (pieces : List Piece) (behind : Behind) (logs : Logs) (lines : List (List ℕ)) → Counts pieces behind
    → FrontCounts (front format pieces behind logs lines)
front_counts format pieces behind logs [] s = s
front_counts format pieces behind logs (text ∷ rest) s =
    by format pieces behind logs text rest s (λ pieces behind logs s. front_counts format pieces behind logs rest s)
    (limited behind (are_shared logs) (said_by format text)) refl
  where
    by : (format : Format) (pieces : List Piece) (behind : Behind) (logs : Logs) (text : List ℕ) (rest : List (List ℕ)) → Counts pieces behind
        → ((pieces : List Piece) (behind : Behind) (logs : Logs) → Counts pieces behind → FrontCounts (front format pieces behind logs rest))
        → (r : Result (Option Line) LineFault) → limited behind (are_shared logs) (said_by format text) ≡ r
        → FrontCounts (front format pieces behind logs (text ∷ rest))
    by format pieces behind logs text rest s more (Err f) h = subst FrontCounts (sym (front_ended format pieces behind logs text rest f h)) s
    by format pieces behind logs text rest s more (Ok said) h =
        subst FrontCounts (sym (front_more format pieces behind logs text rest said h))
        (more (pieces ++ line_pieces behind (are_shared logs) said) (with_line behind (are_shared logs) said) (logs_behind format logs text)
        (counts_more pieces behind (are_shared logs) (said_by format text) said s h))

nothing_counts : Counts [] at_first
nothing_counts = record {
  chunks = refl;
  bytes = refl;
  each = All-nil IsPiece;
  sound = record { outputs = omega arith; bytes = omega arith; waited = omega arith; inputs = omega arith; signals = omega arith; pipes = omega arith; resizes = omega arith };
}

timing_counts : (timing : List ℕ) → FrontCounts (front_of timing)
timing_counts timing = front_counts (format_of (timing_lines timing)) [] at_first no_logs (timing_lines timing) nothing_counts

-- there is room for the pieces behind the chunks
pub record Room (chunks : List Chunk) (pieces : List Piece) : Type 0 where
  pub few : length chunks + chunk_count pieces ≤ most_chunks
  pub delays : All (λ c. c.delay ≤ longest_delay) chunks
  pub lengths : All (λ c. length c.bytes ≤ longest_chunk) chunks
  pub bytes : body_len chunks + sum_by piece_len pieces ≤ longest_body
  pub each : All IsPiece pieces

-- the chunks are those of a recording
pub record Fit (chunks : List Chunk) : Type 0 where
  pub few : length chunks ≤ most_chunks
  pub delays : All (λ c. c.delay ≤ longest_delay) chunks
  pub lengths : All (λ c. length c.bytes ≤ longest_chunk) chunks
  pub bytes : body_len chunks ≤ longest_body

without : (chunks : List Chunk) (pieces : List Piece) → Room chunks pieces → Fit chunks
without chunks pieces r = record { few = omega arith; delays = r.delays; lengths = r.lengths; bytes = omega arith }

-- a chunk more, of at most the bytes that its piece counts
room_output : (chunks : List Chunk) (e : Entry) (bytes : List ℕ) (more : List Piece) → length bytes ≤ e.count → Room chunks (piece.Output e ∷ more)
    → Room (chunks ++ record { delay = e.delay; bytes = bytes } ∷ []) more
room_output chunks e bytes more le r =
    let c : Chunk = record { delay = e.delay; bytes = bytes } in
    let one = All-head IsPiece (piece.Output e) more r.each in
    let outputs : chunk_count (piece.Output e ∷ more) ≡ 1 + chunk_count more = sum_by-cons (λ x. cond (is_chunk x) 1 0) (piece.Output e) more in
    let counted : sum_by piece_len (piece.Output e ∷ more) ≡ e.count + sum_by piece_len more = sum_by-cons piece_len (piece.Output e) more in
    let len : body_len (chunks ++ c ∷ []) ≡ body_len chunks + length bytes = sum_by_push (λ c. length c.bytes) chunks c in
    record {
      few = omega (arith, length-append chunks (c ∷ []));
      delays = All-append (λ c. c.delay ≤ longest_delay) chunks (c ∷ []) r.delays
          (All-cons (λ c. c.delay ≤ longest_delay) c [] one.0 (All-nil (λ (c : Chunk). c.delay ≤ longest_delay)));
      lengths = All-append (λ c. length c.bytes ≤ longest_chunk) chunks (c ∷ []) r.lengths
          (All-cons (λ c. length c.bytes ≤ longest_chunk) c [] (omega (arith, one.1)) (All-nil (λ (c : Chunk). length c.bytes ≤ longest_chunk)));
      bytes = omega arith;
      each = All-tail IsPiece (piece.Output e) more r.each;
    }

room_more : (chunks : List Chunk) (part : Piece) (bytes : List ℕ) (more : List Piece) → length bytes ≤ piece_len part → Room chunks (part ∷ more)
    → Room (chunks ++ piece_chunks part bytes) more
room_more chunks (piece.Output e) bytes more le r = room_output chunks e bytes more le r
room_more chunks (piece.Input n) bytes more le r =
    let outputs : chunk_count (piece.Input n ∷ more) ≡ 0 + chunk_count more = sum_by-cons (λ x. cond (is_chunk x) 1 0) (piece.Input n) more in
    let counted : sum_by piece_len (piece.Input n ∷ more) ≡ n + sum_by piece_len more = sum_by-cons piece_len (piece.Input n) more in
    rw (append-nil chunks) (record {
      few = omega arith;
      delays = r.delays;
      lengths = r.lengths;
      bytes = omega arith;
      each = All-tail IsPiece (piece.Input n) more r.each;
    })

stopped_fits : (chunks : List Chunk) (bytes : List ℕ) (part : Piece) (more : List Piece) → length bytes < piece_len part → Room chunks (part ∷ more)
    → Fit (stopped chunks bytes part more).chunks
stopped_fits chunks [] (piece.Output e) more lt r = without chunks (piece.Output e ∷ more) r
stopped_fits chunks (b ∷ bs) (piece.Output e) more lt r =
    without (chunks ++ record { delay = e.delay; bytes = b ∷ bs } ∷ []) more (room_output chunks e (b ∷ bs) more (omega arith) r)
stopped_fits chunks bytes (piece.Input n) more lt r = without chunks (piece.Input n ∷ more) r

taken_fits : (chunks : List Chunk) (bytes : List ℕ) (pieces : List Piece) → Room chunks pieces → Fit (taken chunks bytes pieces).chunks
taken_fits chunks bytes [] r = without chunks [] r
taken_fits chunks bytes (part ∷ more) r =
    by chunks bytes part more r (λ chunks bytes r. taken_fits chunks bytes more r) (nat_le (piece_len part) (length bytes)) refl
  where
    by : (chunks : List Chunk) (bytes : List ℕ) (part : Piece) (more : List Piece) → Room chunks (part ∷ more)
        → ((chunks : List Chunk) (bytes : List ℕ) → Room chunks more → Fit (taken chunks bytes more).chunks)
        → (t : Bool) → nat_le (piece_len part) (length bytes) ≡ t
        → Fit (cond t (taken (chunks ++ piece_chunks part (take (piece_len part) bytes)) (drop (piece_len part) bytes) more)
        (stopped chunks bytes part more)).chunks
    by chunks bytes part more r next true h =
        next (chunks ++ piece_chunks part (take (piece_len part) bytes)) (drop (piece_len part) bytes)
        (room_more chunks part (take (piece_len part) bytes) more (omega (arith, length-take (piece_len part) bytes)) r)
    by chunks bytes part more r next false h = stopped_fits chunks bytes part more (leb-false _ _ h) r

-- a first line ends at its only LF
header_is : (text : List ℕ) → has_header text ≡ true → IsHeader (take (header_len text) text)
header_is text some =
    let is_lf : ℕ → Bool = λ b. b == 10 in
    let place = position_or_len (λ b. b == 10) text in
    let within : place < length text = ltb-true _ _ some in
    let len : length (take (place + 1) text) ≡ place + 1 = omega (arith, length-take (place + 1) text) in
    let same = position_or_len_is (λ b. b == 10) (take (place + 1) text) place 0 (omega arith)
    (λ k lt. rw (get_or-take (place + 1) text k 0 (omega arith)) (fails_before_first (λ b. b == 10) text k 0 lt))
    (λ lt. rw (get_or-take (place + 1) text place 0 (omega arith)) (passes_at_first (λ b. b == 10) text 0 within)) in
    len ∙ ap (λ n. n + 1) (sym same)

-- what is mended fits
pub mended_fits : (how : How) (script timing : List ℕ) → has_header (seen how script) ≡ true → fits (mended how script timing).tape
mended_fits how script timing some =
    let counts = timing_counts (timing) in
    let room : Room [] (front_of timing).pieces = record {
      few = omega (arith, counts.chunks, counts.sound.outputs);
      delays = All-nil (λ (c : Chunk). c.delay ≤ longest_delay);
      lengths = All-nil (λ (c : Chunk). length c.bytes ≤ longest_chunk);
      bytes = omega (arith, counts.bytes, counts.sound.bytes);
      each = counts.each;
    } in
    let fit = taken_fits [] (drop (header_len (seen how script)) (seen how script)) (front_of timing).pieces room in
    record { header = header_is (seen how script) some; few = fit.few; delays = fit.delays; lengths = fit.lengths; bytes = fit.bytes }
