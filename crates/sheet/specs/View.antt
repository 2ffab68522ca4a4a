-- Private: what the fields of a sheet hold.
use Rattle.sheet.specs.declared.sheet.Sheet.TheInside.{Inside as Fields}
use Rattle.sheet.specs.Held.{Held}

-- the fields' lists
abbrev pub held_of : Fields → Held
held_of s = record { columns = s.columns; order = s.order.items; slots = s.slots.items; origins = s.origins.items }
