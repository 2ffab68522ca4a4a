use Rattle.std.proofs.Common.{◌≡◌, ◌+◌, ◌-◌, ℕ}
use Rattle.json_bytes.specs.Arrays.{bytes_of}
use Rattle.json_bytes.specs.Values.{found, items, value}
use Rattle.json_bytes.proofs.ArrayLemmas.{behind_bytes, read_bytes}
use Rattle.json_bytes.proofs.arrays.bytes_in.Given as goal

-- behind the bytes so far stand those of what is left
abbrev pub invariant-loop : goal.invariant-loop
invariant-loop l =
    (depth : ℕ) → bytes_of (found (value (depth + 1) l.text)) ≡ behind_bytes l.bytes.items (read_bytes (items (value depth) (l.end - l.counter) l.at))
