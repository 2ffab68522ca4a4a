-- What stands between the values of a JSON text. RFC 8259, section 2.
use Rattle.std.specs.Prelude.{ℕ, Bool, ◌||◌, List, [], ◌∷◌, drop, nat_eq, ◌==◌, Option, Some, None, if◌then◌else◌}
use Rattle.std.specs.List.{prefix_len, starts_with}

-- Space, tab, CR and LF.
abbrev pub is_space : ℕ → Bool
is_space b = (b == 32) || (b == 9) || (b == 13) || (b == 10)

-- A text without the space at its front.
abbrev pub past_space : List ℕ → List ℕ
past_space text = drop (prefix_len is_space text) text

-- This byte stands at the front.
abbrev pub begins : ℕ → List ℕ → Bool
begins byte text = starts_with nat_eq text (byte ∷ [])

-- A structural character is a byte with space around it: what stands behind it, where it stands at the front.
abbrev pub past_mark : ℕ → List ℕ → Option (List ℕ)
past_mark byte text =
    if begins byte (past_space text) then Some (past_space (drop 1 (past_space text))) else None
