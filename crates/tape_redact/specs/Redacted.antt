-- Bytes in which a text is no longer to be read (ours).
use Rattle.std.specs.Prelude.{ℕ, ◌+◌, ◌-◌, Bool, List, drop, length, map, nat_eq, slice_index, if◌then◌else◌}
use Rattle.std.specs.List.{count_by, list_any, range_with_len, starts_with}

-- whether the text begins at a place of these bytes
abbrev pub begins_at : List ℕ → List ℕ → ℕ → Bool
begins_at text bytes at = starts_with nat_eq (drop at bytes) text

-- whether a place lies in an occurrence: one that begins there, or as many places before it as the text has bytes
-- without one
unfoldable pub is_covered : List ℕ → List ℕ → ℕ → Bool
is_covered text bytes at =
    let first = at + 1 - length text in
    list_any (begins_at text bytes) (range_with_len first (at + 1 - first))

-- the byte at a place: * in an occurrence, and else the old one
abbrev pub byte_at : List ℕ → List ℕ → ℕ → ℕ
byte_at text bytes at = if is_covered text bytes at then 42 else slice_index bytes at

-- the bytes with * for each that lies in an occurrence
unfoldable pub redacted : List ℕ → List ℕ → List ℕ
redacted text bytes = map (byte_at text bytes) (range_with_len 0 (length bytes))

-- how many occurrences there are, overlapping ones too
unfoldable pub occurrences : List ℕ → List ℕ → ℕ
occurrences text bytes = count_by (begins_at text bytes) (range_with_len 0 (length bytes))
