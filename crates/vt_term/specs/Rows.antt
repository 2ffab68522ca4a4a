-- Tables as lists of rows.
use Rattle.std.specs.Prelude.{ℕ, List, [], ◌∷◌, Option, Some, None, ◌==◌, if◌then◌else◌}

-- what a number names: the first row that has it decides, and without a row it names nothing
abbrev pub named : {Name : Type 0} → List (ℕ × Name) → ℕ → Option Name
named [] number = None
named (row ∷ rest) number = if number == row.0 then Some row.1 else named rest number
