-- What lines come to, one behind another, and the front that they make.
use Rattle.std.proofs.Common.{◌≡◌, ◌⊎◌, ℕ, ◌+◌, ◌<◌, ◌≤◌, Bool, true, false, ◌&&◌, cond, List, ◌∷◌, ◌++◌, length, Option, Some, None, Result, Ok, Err, IfSome, nat_lt, nat_le, min, refl, ap, ◌∙◌, arith, inl, inr}
use Rattle.std.proofs.lemmas.Bool.{cases_lt, ltb-false, lt-ltb, leb-false}
use Rattle.tape_core.specs.Seconds.{last_moment}
use Rattle.tape_core.specs.Tape.{longest_body, longest_chunk, longest_delay, most_chunks}
use Rattle.tape_mend.specs.declared.counting.Behind.{Behind}
use Rattle.tape_mend.specs.declared.counting.Piece.{Piece}
use Rattle.tape_mend.specs.declared.line.Format.{Format}
use Rattle.tape_mend.specs.declared.line.Line.{Line}
use Rattle.tape_mend.specs.declared.line.LineFault.{LineFault}
use Rattle.tape_mend.specs.declared.line.LineFault.TheVariants as fault
use Rattle.tape_mend.specs.declared.line.Stream.{Stream}
use Rattle.tape_mend.specs.declared.line.Stream.TheVariants.{Header, Input, Output, Pipe, Resize, Signal}
use Rattle.tape_mend.specs.Counting.{Logs, are_shared, is_output, limited, line_pieces, logs_behind, lying, with_line, with_stream, within}
use Rattle.tape_mend.specs.Front.{front}
use Rattle.tape_mend.specs.Steps.{IsSound, capped}
use Rattle.tape_mend.specs.Streams.{said_by}

-- a line is within the limits behind others
pub record Passes (behind : Behind) (shared : Bool) (said : Line) : Type 0 where
  pub delay : behind.waited + said.delay ≤ longest_delay
  pub count : said.count ≤ longest_chunk
  pub few : (is_output said.stream && nat_le most_chunks behind.outputs) ≡ false
  pub bytes : behind.bytes + lying shared said ≤ longest_body

-- what a line within the limits, or the first one that it breaks, comes to by the answers of four tests
abbrev by_tests : (delay count chunks bytes : Bool) → Line → Result (Option Line) LineFault
by_tests delay count chunks bytes line =
    cond delay (Err fault.DelayTooLarge)
    (cond count (Err fault.ChunkTooLong)
    (cond chunks (Err fault.TooManyChunks)
    (cond bytes (Err fault.TooManyBytes) (Ok (Some line)))))

tested : (a b c d : Bool) (line : Line) (said : Option Line) → by_tests a b c d line ≡ Ok said
    → (a ≡ false) × (b ≡ false) × (c ≡ false) × (d ≡ false) × (said ≡ Some line)
tested true b c d line said h = absurd (cc)
tested false true c d line said h = absurd (cc)
tested false false true d line said h = absurd (cc)
tested false false false true line said h = absurd (cc)
tested false false false false line said h = (refl, refl, refl, refl, cc)

-- what is told as within the limits is
pub passes : (behind : Behind) (shared : Bool) (line : Line) (said : Option Line) → within behind shared line ≡ Ok said
    → (said ≡ Some line) × Passes behind shared line
passes behind shared line said h =
    let t = tested _ _ _ _ line said h in (
      t.4,
      record {
        delay = ltb-false _ _ t.0;
        count = ltb-false _ _ t.1;
        few = t.2;
        bytes = ltb-false _ _ t.3;
      },
    )

pub sound_with : (behind : Behind) (shared : Bool) (stream : Stream) (delay count : ℕ) → IsSound behind
    → Passes behind shared (record { stream = stream; delay = delay; count = count })
    → IsSound (with_line behind shared (Some (record { stream = stream; delay = delay; count = count })))
sound_with behind shared Output delay count s p = record {
  outputs = let few = leb-false _ _ p.few in omega arith;
  bytes = p.bytes;
  waited = omega arith;
  inputs = omega arith;
  signals = omega arith;
  pipes = omega arith;
  resizes = omega arith;
}
sound_with behind shared Input delay count s p = record {
  outputs = s.outputs;
  bytes = p.bytes;
  waited = p.delay;
  inputs = omega arith;
  signals = omega arith;
  pipes = omega arith;
  resizes = omega arith;
}
sound_with behind shared Header delay count s p = record {
  outputs = s.outputs;
  bytes = p.bytes;
  waited = p.delay;
  inputs = omega arith;
  signals = omega arith;
  pipes = omega arith;
  resizes = omega arith;
}
sound_with behind shared Pipe delay count s p = record {
  outputs = s.outputs;
  bytes = p.bytes;
  waited = p.delay;
  inputs = omega arith;
  signals = omega arith;
  pipes = omega arith;
  resizes = omega arith;
}
sound_with behind shared Resize delay count s p = record {
  outputs = s.outputs;
  bytes = p.bytes;
  waited = p.delay;
  inputs = omega arith;
  signals = omega arith;
  pipes = omega arith;
  resizes = omega arith;
}
sound_with behind shared Signal delay count s p = record {
  outputs = s.outputs;
  bytes = p.bytes;
  waited = p.delay;
  inputs = omega arith;
  signals = omega arith;
  pipes = omega arith;
  resizes = omega arith;
}

-- what lines come to stays within the limits
pub sound_more : (behind : Behind) (shared : Bool) (r : Result (Option Line) LineFault) (said : Option Line) → IsSound behind
    → limited behind shared r ≡ Ok said → IsSound (with_line behind shared said)
sound_more behind shared (Err f) said s h = absurd (cc)
sound_more behind shared (Ok None) said s h =
    let none : said ≡ None = cc in
    rw none (record { outputs = s.outputs; bytes = s.bytes; waited = s.waited; inputs = omega arith; signals = omega arith; pipes = omega arith; resizes = omega arith })
sound_more behind shared (Ok (Some line)) said s h =
    let p = passes behind shared line said h in
    rw (p.0) (sound_with behind shared line.stream line.delay line.count s p.1)

lines_with : (behind : Behind) (waited bytes : ℕ) (stream : Stream) → (with_stream behind waited bytes stream).lines ≡ behind.lines + 1
lines_with behind waited bytes Header = refl
lines_with behind waited bytes Input = refl
lines_with behind waited bytes Output = refl
lines_with behind waited bytes Signal = refl
lines_with behind waited bytes Pipe = refl
lines_with behind waited bytes Resize = refl

-- each line counts in their number
pub one_line_more : (behind : Behind) (shared : Bool) (said : Option Line) → (with_line behind shared said).lines ≡ behind.lines + 1
one_line_more behind shared None = refl
one_line_more behind shared (Some line) = lines_with behind (behind.waited + line.delay) (behind.bytes + lying shared line) line.stream

-- a line that is told is told again
pub told_again : (behind : Behind) (shared : Bool) (r : Result (Option Line) LineFault) (said : Option Line) → limited behind shared r ≡ Ok said
    → IfSome said (λ line. within behind shared line ≡ Ok (Some line))
told_again behind shared (Err f) said h = absurd (cc)
told_again behind shared (Ok None) said h = let none : said ≡ None = cc in rw none tt
told_again behind shared (Ok (Some line)) said h =
    let p = passes behind shared line said h in
    rw (p.0) (h ∙ ap Ok p.0)

-- what a line comes to whose delay was judged so
abbrev by_count : Behind → Bool → Bool → Line → Result (Option Line) LineFault
by_count behind shared delay line =
    by_tests delay (nat_lt longest_chunk line.count) (is_output line.stream && nat_le most_chunks behind.outputs)
    (nat_lt longest_body (behind.bytes + lying shared line)) line

capped_count : (behind : Behind) (shared : Bool) (stream : Stream) (delay count : ℕ) (t : Bool)
    → (last_moment < count) ⊎ (count ≤ last_moment)
    → by_count behind shared t (record { stream = stream; delay = delay; count = min count last_moment })
    ≡ by_count behind shared t (record { stream = stream; delay = delay; count = count })
capped_count behind shared stream delay count t (inl lt) =
    let long : nat_lt longest_chunk count ≡ true = lt-ltb _ _ (omega arith) in
    let long' : nat_lt longest_chunk (min count last_moment) ≡ true = lt-ltb _ _ (omega arith) in
    rw (long, long') refl
capped_count behind shared stream delay count t (inr le) =
    let same : min count last_moment ≡ count = omega arith in rw same refl

-- a delay or a count above the greatest moment is above the limit of a line too
capped_line : (behind : Behind) (shared : Bool) (stream : Stream) (delay count : ℕ)
    → within behind shared (record { stream = stream; delay = min delay last_moment; count = min count last_moment })
    ≡ within behind shared (record { stream = stream; delay = delay; count = count })
capped_line behind shared stream delay count =
    elim (cases_lt last_moment delay) [
      | inl lt ↦
          let long : nat_lt longest_delay (behind.waited + delay) ≡ true = lt-ltb _ _ (omega arith) in
          let long' : nat_lt longest_delay (behind.waited + min delay last_moment) ≡ true = lt-ltb _ _ (omega arith) in
          rw (long, long') refl
      | inr le ↦
          let same : min delay last_moment ≡ delay = omega arith in
          let t = nat_lt longest_delay (behind.waited + delay) in
          rw same (capped_count behind shared stream delay count t (cases_lt last_moment count))
    ]

pub limited_capped : (behind : Behind) (shared : Bool) (r : Result (Option Line) LineFault)
    → limited behind shared (capped r) ≡ limited behind shared r
limited_capped behind shared (Err f) = refl
limited_capped behind shared (Ok None) = refl
limited_capped behind shared (Ok (Some said)) = capped_line behind shared said.stream said.delay said.count

-- reading ends before a line with a fault
pub front_ended : (format : Format) (pieces : List Piece) (behind : Behind) (logs : Logs) (text : List ℕ) (rest : List (List ℕ)) (f : LineFault)
    → limited behind (are_shared logs) (said_by format text) ≡ Err f
    → front format pieces behind logs (text ∷ rest) ≡ record { pieces = pieces; behind = behind; fault = Some f; left = length rest + 1 }
front_ended format pieces behind logs text rest f h = rw h refl

-- and goes on behind any other
pub front_more : (format : Format) (pieces : List Piece) (behind : Behind) (logs : Logs) (text : List ℕ) (rest : List (List ℕ)) (said : Option Line)
    → limited behind (are_shared logs) (said_by format text) ≡ Ok said
    → front format pieces behind logs (text ∷ rest)
    ≡ front format (pieces ++ line_pieces behind (are_shared logs) said) (with_line behind (are_shared logs) said) (logs_behind format logs text) rest
front_more format pieces behind logs text rest said h = rw h refl
