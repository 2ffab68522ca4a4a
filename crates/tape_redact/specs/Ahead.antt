-- Private: at which places ahead something stands, told by bits and by lanes.
use Rattle.std.specs.Prelude.{◌≡◌, ℕ, ◌+◌, ◌<◌, Bool, min, nat_lt, List, length, slice_index, if◌then◌else◌}
use Rattle.std.specs.Int.{bit_at}

-- bit k is set where it stands at from + k, for each place before the end
pub record Tells (bits from end : ℕ) (stands : ℕ → Bool) : Type 0 where
  pub each : (k : ℕ) → from + k < end → bit_at bits k ≡ (if stands (from + k) then 1 else 0)

-- how many places are looked at together, where so many bytes are left
abbrev pub places_from : ℕ → ℕ → ℕ
places_from left text_len = if nat_lt left (64 + min text_len 64) then 1 else 64

-- 64 lanes, of which lane k holds f k
pub record HasLanes (lanes : List ℕ) (f : ℕ → ℕ) : Type 0 where
  pub long : length lanes ≡ 64
  pub each : (k : ℕ) → k < 64 → slice_index lanes k ≡ f k
