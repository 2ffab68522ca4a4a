-- Private: numbers that follow each other by one.
use Rattle.std.specs.Prelude.{ℕ, List}
use Rattle.std.specs.Fmt.{decimal}
use Rattle.std.specs.List.{flat_map, range_with_len}
use Rattle.chunk_walk.specs.ChangeLine.{spaced_number}

-- so many numbers from one on, a space before each
unfoldable pub run_text : ℕ → ℕ → List ℕ
run_text first count = flat_map (spaced_number decimal) (range_with_len first count)
