-- Groups of neighbours among places that are counted from 0, told by where a group begins (ours).
use Rattle.std.specs.Prelude.{ℕ, ◌+◌, ◌-◌, Bool, not, List, filter}
use Rattle.std.specs.List.{prefix_len, range_with_len}

-- where groups begin, from one place to before another
abbrev pub starts : (ℕ → Bool) → ℕ → ℕ → List ℕ
starts begins from end = filter begins (range_with_len from (end - from))

-- where the group ends that begins at a place: where the next one begins, and where all ends at last
abbrev pub group_end : (ℕ → Bool) → ℕ → ℕ → ℕ
group_end begins at end = at + 1 + prefix_len (λ k. not (begins k)) (range_with_len (at + 1) (end - (at + 1)))
