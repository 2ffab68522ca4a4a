use Rattle.std.proofs.Common.{◌≡◌, ℕ, None, drop}
use Rattle.std.specs.Option.{option_map}
use Rattle.json_bytes.specs.Listed.{listed, valued}
use Rattle.json_bytes.specs.Values.{last_named}
use Rattle.json_bytes.proofs.members.named.Given as goal

-- the value is the last one of this name in what is left, or the one that was found before
abbrev pub invariant-loop-member : goal.invariant-loop-member
invariant-loop-member l =
    (depth : ℕ) → last_named l.name None (listed depth l.members)
    ≡ last_named l.name (option_map (λ v. valued depth v.now) l.value) (listed depth (drop l.member-index l.members))
