-- What bytes make of a strip, in parts; how many cells it has.
use Rattle.std.proofs.Common.{◌≡◌, ℕ, ◌+◌, ◌<◌, ◌≤◌, List, [], ◌∷◌, ◌++◌, length, take, drop, get_or, refl, sym, ap, ◌∙◌, arith}
use Rattle.std.proofs.lemmas.Grind.{common_steps}
use Rattle.std.proofs.lemmas.List.{append_assoc, append-nil, length-append, length-replicate, length-set, take-append-drop, take_more}
use Rattle.std.proofs.lemmas.List.Sums.{fold-append}
use Rattle.plays.specs.Sink.{Sink, after_sending, HasRoom, KeepsFront}
use Rattle.seek_tests.specs.declared.strip.Meaning.{Meaning}
use Rattle.seek_tests.specs.declared.strip.Meaning.TheVariants.{Asks, Quotes, Stands}
use Rattle.seek_tests.specs.Strip.{Seen, answer, answers, begun, blank, meaning, play, step, step_of}

pub plays_in_parts : (s : Seen) (first second : List ℕ) → play s (first ++ second) ≡ play (play s first) second
unfolding play
plays_in_parts s first second = fold-append step s first second

pub answers_in_parts : (s : Seen) (first second : List ℕ) → answers s (first ++ second) ≡ answers s first ++ answers (play s first) second
unfolding play answers
answers_in_parts s [] second = refl
answers_in_parts s (byte ∷ more) second =
    ap (λ (l : List ℕ). answer s byte ++ l) (answers_in_parts (step s byte) more second)
    ∙ sym (append_assoc (answer s byte) (answers (step s byte) more) (answers (play (step s byte) more) second))

begun_size : (s : Seen) → length (begun s).cells ≡ length s.cells
begun_size s = grind (arith, common_steps, length-replicate)

step_of_size : (m : Meaning) (s : Seen) (byte : ℕ) → length (step_of m s byte).cells ≡ length s.cells
step_of_size Asks s byte = refl
step_of_size Quotes s byte = refl
step_of_size Stands s byte = length-set (begun s).cells (begun s).next byte ∙ begun_size s

pub play_size : (s : Seen) (bytes : List ℕ) → length (play s bytes).cells ≡ length s.cells
unfolding play
play_size s [] = refl
play_size s (byte ∷ more) = play_size (step s byte) more ∙ step_of_size (meaning s.quoting byte) s byte

pub blank_size : (size : ℕ) (bytes : List ℕ) → length (play (blank size) bytes).cells ≡ size
blank_size size bytes = play_size (blank size) bytes ∙ length-replicate size 46

-- a strip after the first bytes, and what it has answered
pub record Taken (start now_ : Seen) (first then_ : Sink) (bytes : List ℕ) (at : ℕ) : Type 0 where
  pub play : now_ ≡ play start (take at bytes)
  pub sent : then_ ≡ after_sending first (answers start (take at bytes))
  pub size : length now_.cells ≡ length start.cells
  pub front : KeepsFront first then_

pub play_next : (s : Seen) (bytes : List ℕ) (at : ℕ) → at < length bytes
    → step (play s (take at bytes)) (get_or bytes at 0) ≡ play s (take (at + 1) bytes)
unfolding play
play_next s bytes at within =
    sym (plays_in_parts s (take at bytes) (get_or bytes at 0 ∷ [])) ∙ sym (ap (play s) (take_more bytes at 0 within))

pub answers_next : (s : Seen) (bytes : List ℕ) (at : ℕ) → at < length bytes
    → answers s (take at bytes) ++ answer (play s (take at bytes)) (get_or bytes at 0) ≡ answers s (take (at + 1) bytes)
unfolding answers
answers_next s bytes at within =
    ap (λ (l : List ℕ). answers s (take at bytes) ++ l) (sym (append-nil (answer (play s (take at bytes)) (get_or bytes at 0))))
    ∙ sym (answers_in_parts s (take at bytes) (get_or bytes at 0 ∷ []))
    ∙ sym (ap (answers s) (take_more bytes at 0 within))

-- room for all answers is room for the next
pub room_for_next : (s : Seen) (bytes : List ℕ) (at : ℕ) (first then_ : Sink) → at < length bytes
    → then_ ≡ after_sending first (answers s (take at bytes)) → length first.bytes ≤ length then_.bytes
    → HasRoom first (answers s bytes) → HasRoom then_ (answer (play s (take at bytes)) (get_or bytes at 0))
room_for_next s bytes at first then_ within sent longer room =
    let place : then_.place ≡ first.place + length (answers s (take at bytes)) = ap (λ (k : Sink). k.place) sent in
    let next = ap length (answers_next s bytes at within) in
    let both = length-append (answers s (take at bytes)) (answer (play s (take at bytes)) (get_or bytes at 0)) in
    let all = ap (λ (l : List ℕ). length (answers s l)) (take-append-drop (at + 1) bytes) in
    let parts = ap length (answers_in_parts s (take (at + 1) bytes) (drop (at + 1) bytes)) in
    let rest = length-append (answers s (take (at + 1) bytes)) (answers (play s (take (at + 1) bytes)) (drop (at + 1) bytes)) in
    omega arith
