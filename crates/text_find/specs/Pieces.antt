-- Bytes that are played at once where a text stands, and what of it goes at them (ours).
use Rattle.std.specs.Prelude.{◌≡◌, ◌⊎◌, ℕ, ◌+◌, ◌-◌, ◌<◌, List}
use Rattle.standings.specs.Kept.{Keeps}
use Rattle.standings.specs.Rows.{Row}
use Rattle.text_find.specs.FindLines.{rows_within}

-- nothing of the text goes at so many bytes but maybe at the last one, up to which the rows are the same then
pub record AreQuiet (text : List ℕ) (screen : List ℕ → List Row) (before bytes : List ℕ) (taken : ℕ) : Type 0 where
  pub inside : (count : ℕ) → count + 1 < taken → Keeps text (rows_within screen before bytes count) (rows_within screen before bytes (count + 1))
  pub last : (rows_within screen before bytes (taken - 1) ≡ rows_within screen before bytes 0)
      ⊎ Keeps text (rows_within screen before bytes (taken - 1)) (rows_within screen before bytes taken)
