use Rattle.std.proofs.Common.{◌≡◌, ◌-◌}
use Rattle.json_bytes.specs.Listed.{listed}
use Rattle.json_bytes.specs.Values.{members, object_at, value}
use Rattle.json_bytes.proofs.ListedLemmas.{behind_members}
use Rattle.json_bytes.proofs.members.read_object.Given as goal

-- behind the members so far stand those of what is left
abbrev pub invariant-loop : goal.invariant-loop
invariant-loop l =
    object_at (value l.depth) l.text ≡ behind_members (listed l.depth l.members.items) (members (value l.depth) (l.end - l.counter) l.at)
