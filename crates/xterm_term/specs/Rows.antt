-- Tables as lists of rows.
use Rattle.std.specs.Prelude.{ℕ, List, [], ◌∷◌, Option, Some, None, ◌==◌, if◌then◌else◌}

-- what a number names: the first row that has it decides, and without a row it names nothing
abbrev pub named : {Name : Type 0} → List (ℕ × Name) → ℕ → Option Name
named [] number = None
named (row ∷ rest) number = if number == row.0 then Some row.1 else named rest number

-- What stands in no table has no effect (ours), nor has a byte that gives no command.
abbrev pub effect_of : {Name State : Type 0} → (Name → State → State) → Option Name → State → State
effect_of effect None s = s
effect_of effect (Some row) s = effect row s
