-- Private: the logs that the code keeps, as those that definitions speak of.
use Rattle.std.specs.Prelude.{◌≡◌, ℕ, List}
use Rattle.std.specs.Option.{option_map}
use Rattle.std.specs.Borrow.{Bor}
use Rattle.tape_core.specs.Text.{fields}
use Rattle.tape_mend.specs.declared.logs.Logs.{Logs as Held}
use Rattle.tape_mend.specs.Counting.{Logs, are_shared}

-- The fields of a text.
abbrev pub fields_at : Bor (List ℕ) → List (List ℕ)
fields_at text = fields text.now

-- What stands behind both names.
abbrev pub logs_of : Held → Logs
logs_of logs = record { output = option_map fields_at logs.output; input = option_map fields_at logs.input }

-- What is kept of both is whether they are one file.
abbrev pub IsAsked : Held → Type 0
IsAsked logs = logs.shared ≡ are_shared (logs_of logs)
