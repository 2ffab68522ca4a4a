-- What leaves at joined bytes.
use Rattle.std.proofs.Common.{◌≡◌, ℕ, List, [], ◌∷◌, ◌++◌, refl, sym, ap, ◌∙◌, append_assoc}
use Rattle.std.proofs.lemmas.List.Sums.{fold-append}
use Rattle.vt_term.specs.declared.profile.Profile.{Profile}
use Rattle.vt_term.specs.Term.{play}
use Rattle.screen_transcript.specs.Transcribed.{Transcribed, left, left_at, leaving_rows, play_on, reset_as, step_on}

pub plays_parts : (x : Transcribed) (first second : List ℕ) → play_on x (first ++ second) ≡ play_on (play_on x first) second
unfolding play_on
plays_parts x first second = fold-append step_on x first second

-- the term is the one that is played
pub plays_term : (x : Transcribed) (bytes : List ℕ) → (play_on x bytes).term ≡ play x.term bytes
unfolding play_on play
plays_term x [] = refl
plays_term x (byte ∷ bytes) = plays_term (step_on x byte) bytes

pub left_parts : (x : Transcribed) (first second : List ℕ) → left x (first ++ second) ≡ left x first ++ left (play_on x first) second
unfolding left play_on
left_parts x [] second = refl
left_parts x (byte ∷ first) second =
    ap (λ l. left_at x byte ++ l) (left_parts (step_on x byte) first second)
    ∙ sym (append_assoc (left_at x byte) (left (step_on x byte) first) (left (play_on (step_on x byte) first) second))

pub rows_nothing : (profile : Profile) (before : List ℕ) → leaving_rows profile before [] ≡ []
unfolding left
rows_nothing profile before = refl

pub rows_parts : (profile : Profile) (before first second : List ℕ)
    → leaving_rows profile before (first ++ second) ≡ leaving_rows profile before first ++ leaving_rows profile (before ++ first) second
rows_parts profile before first second =
    left_parts (play_on (reset_as profile) before) first second
    ∙ ap (λ (x : Transcribed). leaving_rows profile before first ++ left x second) (sym (plays_parts (reset_as profile) before first))
