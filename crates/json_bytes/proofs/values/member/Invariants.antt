use Rattle.std.proofs.Common.{◌≡◌, ◌+◌, ◌-◌}
use Rattle.std.specs.Option.{option_and_then}
use Rattle.json_bytes.specs.Values.{found, member_of, members, value}
use Rattle.json_bytes.proofs.MemberLemmas.{named_in}
use Rattle.json_bytes.proofs.values.member.Given as goal

-- the value is the last one of this name in what is left of the object, or the one that was found before
abbrev pub invariant-loop : goal.invariant-loop
invariant-loop l =
    member_of l.name (found (value (l.depth + 1) l.text))
    ≡ named_in l.name (option_and_then (λ at. found (value l.depth at.now)) l.place) (members (value l.depth) (l.end - l.counter) l.at)
