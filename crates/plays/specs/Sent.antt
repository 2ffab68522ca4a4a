-- Private: how the list of reports lies in memory, which no clause that others see speaks of.
use Rattle.std.specs.Prelude.{ℕ, ◌≤◌, List, length, replicate}
use Rattle.plays.specs.Sink.{Sink}
use Rattle.plays.specs.declared.reports.Sent.{Sent}
use Rattle.plays.specs.declared.reports.Sent.TheVariants.{Own, Zeros}

-- The bytes themselves.
abbrev pub sent_bytes : Sent → List ℕ
sent_bytes (Own list) = list.items
sent_bytes (Zeros alloc count) = replicate count 0

-- The constant has as many zeros.
abbrev pub AreSent : Sent → Type 0
AreSent (Own list) = Unit {0}
AreSent (Zeros alloc count) = count ≤ 20

-- They, and a place in them.
abbrev pub sink_of : Sent → ℕ → Sink
sink_of list place = record { bytes = sent_bytes list; place = place }

-- The place is in the list.
abbrev pub IsPlaced : Sent → ℕ → Type 0
IsPlaced list place = AreSent list × (place ≤ length (sent_bytes list))
