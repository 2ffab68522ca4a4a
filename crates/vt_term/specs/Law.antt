-- What holds of every term: the statements of the crate's laws.
use Rattle.std.specs.Prelude.{◌≡◌, ℕ, ◌*◌, ◌≤◌, List, ◌++◌, length}
use Rattle.vt_term.specs.declared.profile.Profile.{Profile}
use Rattle.vt_term.specs.Console.{IsSafe}
use Rattle.vt_term.specs.Term.{Term, reset_term_as, play, sent}
use Rattle.vt_term.specs.Seen.{Seen, Shows}

-- Joined texts are played as their parts in turn, also where the cut is inside a sequence or at a pending wrap.
abbrev pub PlaysInParts : Type 0
PlaysInParts = (x : Term) (first second : List ℕ) → play x (first ++ second) ≡ play (play x first) second

-- What joined texts send is what their parts send in turn.
abbrev pub SendsInParts : Type 0
SendsInParts =
    (x : Term) (first second : List ℕ) → sent x (first ++ second) ≡ sent x first ++ sent (play x first) second

-- Terms of which the same is seen play to terms of which the same is seen, and send the same.
abbrev pub SeenDecides : Type 0
SeenDecides =
    (seen : Seen) (x y : Term) (bytes : List ℕ) → Shows seen x → Shows seen y
    → ((after : Seen) × Shows after (play x bytes) × Shows after (play y bytes)) × (sent x bytes ≡ sent y bytes)

-- Three times what is sent from a reset term is at most twenty times the bytes: the longest reply is 20 bytes, to a
-- sequence of 3.
abbrev pub SendsLittle : Type 0
SendsLittle = (profile : Profile) (bytes : List ℕ) → 3 * length (sent (reset_term_as profile) bytes) ≤ 20 * length bytes

-- Whatever bytes a safe term takes, it stays safe.
abbrev pub StaysSafe : Type 0
StaysSafe = (x : Term) (bytes : List ℕ) → IsSafe x.console → IsSafe (play x bytes).console
