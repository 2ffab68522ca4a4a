use Rattle.std.proofs.Common.{◌≡◌, take}
use Rattle.std.specs.Prelude.{fold}
use Rattle.std.specs.List.{flat_map}
use Rattle.tape_check.specs.Unplayed.{mode_names}
use Rattle.tape_check.specs.Scan.{counted}
use Rattle.tape_check.specs.Counting.{entries_of}
use Rattle.tape_check.proofs.unplayed.Counts.count_modes.Given as goal

-- the parameters that were passed are counted
abbrev pub invariant-loop-param : goal.invariant-loop-param
invariant-loop-param l =
    entries_of l.self ≡ fold counted (entries_of l.initial.self) (flat_map (mode_names l.played l.private l.last) (take l.param-index l.params))
