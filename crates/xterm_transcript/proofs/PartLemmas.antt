-- What leaves at joined bytes.
use Rattle.std.proofs.Common.{◌≡◌, ℕ, List, [], ◌∷◌, ◌++◌, refl, sym, ap, ◌∙◌, append_assoc}
use Rattle.std.proofs.lemmas.List.Sums.{fold-append}
use Rattle.xterm_term.specs.declared.measure.Size.{Size}
use Rattle.xterm_term.specs.Term.{play}
use Rattle.xterm_transcript.specs.Transcribed.{Transcribed, coming_at, left, leaving_rows, play_on, reset_of, step_on}

pub plays_parts : (x : Transcribed) (first second : List ℕ) → play_on x (first ++ second) ≡ play_on (play_on x first) second
unfolding play_on
plays_parts x first second = fold-append step_on x first second

-- the term is the one that is played
pub plays_term : (x : Transcribed) (bytes : List ℕ) → (play_on x bytes).term ≡ play x.term bytes
unfolding play_on play
plays_term x [] = refl
plays_term x (byte ∷ bytes) = plays_term (step_on x byte) bytes

pub left_parts : (x : Transcribed) (first second : List ℕ) → left x (first ++ second) ≡ left x first ++ left (play_on x first) second
unfolding left play_on
left_parts x [] second = refl
left_parts x (byte ∷ first) second =
    ap (λ l. (coming_at x byte).rows ++ l) (left_parts (step_on x byte) first second)
    ∙ sym (append_assoc (coming_at x byte).rows (left (step_on x byte) first) (left (play_on (step_on x byte) first) second))

pub rows_nothing : (size : Size) (before : List ℕ) → leaving_rows size before [] ≡ []
unfolding left
rows_nothing size before = refl

pub rows_parts : (size : Size) (before first second : List ℕ)
    → leaving_rows size before (first ++ second) ≡ leaving_rows size before first ++ leaving_rows size (before ++ first) second
rows_parts size before first second =
    left_parts (play_on (reset_of size) before) first second
    ∙ ap (λ (x : Transcribed). leaving_rows size before first ++ left x second) (sym (plays_parts (reset_of size) before first))
