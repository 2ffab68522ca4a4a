-- What of rows has gone out, and what is held back: blank rows by their count.
use Rattle.std.specs.Prelude.{◌≡◌, ℕ, ◌<◌, List, [], ◌∷◌, ◌++◌, Option, length, replicate}
use Rattle.chunk_walk.specs.Stops.{StopsPrint}
use Rattle.chunk_walk.specs.declared.stop.WalkFault.{WalkFault}
use Rattle.held.specs.Held.{Holds, Wrote}
use Rattle.tape_core.specs.declared.devices.Watched.{Watched}
use Rattle.transcripts.specs.Transcript.{text_of, without_blank_end}

-- what is held back of a text, and how many blank rows behind it
pub record Back : Type 0 where
  pub held : List ℕ
  pub blank : ℕ

-- since it was another, a writer was given the text of these rows but for what is held back
pub record Told {W : Type 0} (contents : W → Option (List ℕ)) (start writer : Watched W) (back : Back) (rows : List (List ℕ))
    : Type 0 where
  pub text : Holds contents start writer back.held (text_of rows)
  pub blank : rows ≡ without_blank_end rows ++ replicate back.blank []

-- rows were told behind whatever rows were told before
abbrev pub Tells : {W : Type 0} → (W → Option (List ℕ)) → Watched W → Back → Watched W → Back → List (List ℕ) → Type 0
Tells {W} contents old before new after more =
    (start : Watched W) (rows : List (List ℕ)) → Told contents start old before rows → Told contents start new after (rows ++ more)

-- a beginning of them was
pub record TellsFront {W : Type 0} (contents : W → Option (List ℕ)) (old : Watched W) (before : Back) (new : Watched W) (after : Back)
    (more : List (List ℕ)) : Type 0 where
  pub front : List (List ℕ)
  pub rest : List (List ℕ)
  pub cut : more ≡ front ++ rest
  pub tells : Tells contents old before new after front

-- whatever rows were told before and come behind, the print of all stops in these
abbrev pub StopsIn : {W : Type 0} → (W → Option (List ℕ)) → Watched W → Back → Watched W → List (List ℕ) → WalkFault → Type 0
StopsIn {W} contents old before new more fault =
    (start : Watched W) (rows behind : List (List ℕ)) → Told contents start old before rows
    → StopsPrint contents start new (text_of (rows ++ more ++ behind)) fault

-- ---- a row in parts

-- the blank rows that were held back went out, and behind them this beginning of a row's text
pub record BeginsRow {W : Type 0} (contents : W → Option (List ℕ)) (old : Watched W) (before : Back) (new : Watched W) (after : Back)
    (text : List ℕ) : Type 0 where
  pub wrote : Wrote contents old before.held new after.held (replicate before.blank 10 ++ text)
  pub none : after.blank ≡ 0

-- a part goes out behind whatever text a row began with
abbrev pub PutsPart : {W : Type 0} → (W → Option (List ℕ)) → Watched W → Back → Watched W → Back → List ℕ → Type 0
PutsPart {W} contents old before new after part =
    (start : Watched W) (back : Back) (text : List ℕ) → BeginsRow contents start back old before text
    → BeginsRow contents start back new after (text ++ part)

-- a row that isn't blank ends behind its text, whatever that is
abbrev pub EndsRow : {W : Type 0} → (W → Option (List ℕ)) → Watched W → Back → Watched W → Back → Type 0
EndsRow {W} contents old before new after =
    (start : Watched W) (back : Back) (text : List ℕ) → 0 < length text → BeginsRow contents start back old before text
    → Tells contents start back new after (text ∷ [])
