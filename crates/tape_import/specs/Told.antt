-- How losses are told (ours).
use Rattle.std.specs.Prelude.{ℕ, Bool, ◌&&◌, ◌||◌, not, List, [], ◌∷◌, ◌++◌, codes, Option, Some, None, is_some, ◌==◌, if◌then◌else◌}
use Rattle.std.specs.Fmt.{decimal}
use Rattle.tape_core.specs.Devices.{joined}
use Rattle.tape_import.specs.declared.fault.EventFault.{EventFault}
use Rattle.tape_import.specs.declared.fault.EventFault.TheVariants as event
use Rattle.tape_import.specs.declared.losses.Cut.{Cut}
use Rattle.tape_import.specs.declared.losses.Late.{Late}
use Rattle.tape_import.specs.declared.losses.Left.{Left}
use Rattle.tape_import.specs.declared.losses.Losses.{Losses}
use Rattle.tape_import.specs.declared.losses.Others.{Others}
use Rattle.tape_import.specs.declared.losses.Place.{Place}
use Rattle.tape_import.specs.declared.losses.Place.TheVariants as place

-- A text that ends its line.
abbrev pub ended : List ℕ → List ℕ
ended text = text ++ 10 ∷ []

-- What is wrong.
abbrev pub fault_text : EventFault → List ℕ
fault_text event.BadEvent = codes "bad event"
fault_text event.OutOfOrder = codes "out of order"
fault_text event.ChunkTooLong = codes "chunk too long"
fault_text event.TooManyChunks = codes "too many chunks"
fault_text event.TooManyBytes = codes "too many bytes"
fault_text event.DelayTooLarge = codes "delay too large"

-- That the messages begin late.
abbrev pub first_text : Option Late → List ℕ
first_text None = []
first_text (Some late) = joined (codes "first message is number " ∷ ended (decimal late.number) ∷ [])

-- What was left out from the first fault on: lines, counted from 1, or bytes from an entry or a record on, which are
-- counted from 0.
abbrev pub place_text : Place → List ℕ
place_text place.Line = codes "recording line "
place_text place.Event = codes "recording event "

abbrev pub counted_text : Place → List ℕ
counted_text place.Line = ended (codes " lines left out")
counted_text place.Event = ended (codes " bytes left out")

abbrev pub left_text : Option Left → List ℕ
left_text None = []
left_text (Some left) = joined
    (place_text left.place ∷ decimal left.number ∷ codes ": " ∷ fault_text left.fault ∷ codes ", "
    ∷ decimal left.count ∷ counted_text left.place ∷ [])

-- The chunk that was cut.
abbrev pub cut_text : Option Cut → List ℕ
cut_text None = []
cut_text (Some cut) = joined
    (codes "chunk " ∷ decimal cut.chunk ∷ codes " cut to " ∷ decimal cut.kept ∷ codes " of " ∷ decimal cut.counted
    ∷ ended (codes " bytes") ∷ [])

-- The delays that were cut, where any were.
abbrev pub slow_line : ℕ → List ℕ
slow_line count = joined (decimal count ∷ ended (codes " delays cut to 1000000 seconds") ∷ [])

abbrev pub slow_text : ℕ → List ℕ
slow_text count = if count == 0 then [] else slow_line count

-- What a pair has no place for, where there is any.
abbrev pub is_nothing : Others → Bool
is_nothing others = (others.inputs == 0) && (others.markers == 0) && (others.resizes == 0) && (others.others == 0)

abbrev pub others_line : Others → List ℕ
others_line others = joined
    (decimal others.inputs ∷ codes " inputs, " ∷ decimal others.markers ∷ codes " markers, " ∷ decimal others.resizes
    ∷ codes " resizes and " ∷ decimal others.others ∷ ended (codes " others left out") ∷ [])

abbrev pub others_text : Others → List ℕ
others_text others = if is_nothing others then [] else others_line others

-- All of it, in this order.
unfoldable pub losses_text : Losses → List ℕ
losses_text losses =
    first_text losses.first ++ left_text losses.left ++ cut_text losses.cut ++ slow_text losses.slow
    ++ others_text losses.others

-- Something was left out or cut, or a resize was, and not just other events.
abbrev pub is_damaged : Losses → Bool
is_damaged losses =
    is_some losses.first || is_some losses.left || is_some losses.cut || not (losses.slow == 0)
    || not (losses.others.resizes == 0)
