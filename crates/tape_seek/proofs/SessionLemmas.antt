-- What a session's replay shows, in the words of its recording.
use Rattle.std.proofs.Common.{◌≡◌, ℕ, List, ap, subst, ◌∙◌}
use Rattle.plays.specs.declared.plays.Plays.{Ghosts}
use Rattle.tape_core.specs.declared.chunk.Chunk.{Chunk}
use Rattle.tape_core.specs.Due.{first}
use Rattle.tape_core.specs.Tape.{Tape}
use Rattle.tape_seek.specs.declared.edits.Edit.{Edit}
use Rattle.tape_seek.specs.declared.replay.Replay.{Replay}
use Rattle.tape_seek.specs.Kept.{IsReplay, PlaysOn, marks_of, sent_after, state_of}
use Rattle.tape_seek.specs.Marks.{Marks}

-- a session whose replay plays on, and has other marks
pub marked : {T P K : Type 0} (tape : Tape) (log : List Edit) (old new : Replay T P K) (marks : Marks) → PlaysOn old new
    → marks_of new ≡ marks → state_of tape log new ≡ record (state_of tape log old) { marks = marks }
marked tape log old new marks rest is =
    let at = λ (m : Marks). record (state_of tape log old) { marks = m } in
    rw (rest.profile, rest.every) (ap at is)

pub shows_up_to : {T P K : Type 0} (p : Ghosts T P K) (profile : P) (chunks : List Chunk) (tape : Tape) (r : Replay T P K) (count : ℕ)
    → r.profile ≡ profile → chunks ≡ tape.chunks → IsReplay p chunks r → r.head ≡ count
    → p.shows profile r.working (first tape.chunks count)
shows_up_to {P = P} p profile chunks tape r count plays same replay at =
    subst (λ (q : P). p.shows q r.working (first tape.chunks count)) plays
    (subst (λ (cs : List Chunk). p.shows r.profile r.working (first cs count)) same
    (subst (λ (n : ℕ). p.shows r.profile r.working (first chunks n)) at replay.working.shows))

pub reports_up_to : {T P K : Type 0} (p : Ghosts T P K)
    → (profile plays : P) (chunks : List Chunk) (tape : Tape) (bytes : List ℕ) (count : ℕ) → plays ≡ profile
    → chunks ≡ tape.chunks → bytes ≡ sent_after p plays chunks count
    → bytes ≡ p.sent profile (first tape.chunks count)
reports_up_to {P = P} p profile plays chunks tape bytes count is_profile same is =
    is ∙ ap (λ (cs : List Chunk). p.sent plays (first cs count)) same
    ∙ ap (λ (q : P). p.sent q (first tape.chunks count)) is_profile
