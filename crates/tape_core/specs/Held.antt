-- Private: how bytes lie in memory, which no clause that others see speaks of.
use Rattle.std.specs.Prelude.{ℕ, ◌+◌, ◌≤◌, List, length, take, drop}
use Rattle.tape_core.specs.declared.bytes.Held.{Held}
use Rattle.tape_core.specs.declared.bytes.Held.TheVariants.{Own, Part}

-- The bytes themselves.
abbrev pub held_bytes : Held → List ℕ
held_bytes (Own items) = items.items
held_bytes (Part part) = take part.len (drop part.start part.text.value.items)

-- A part ends within its text.
abbrev pub LiesWithin : Held → Type 0
LiesWithin (Own items) = Unit {0}
LiesWithin (Part part) = part.start + part.len ≤ length part.text.value.items
