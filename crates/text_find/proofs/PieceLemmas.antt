-- A chunk that is played in pieces.
use Rattle.std.proofs.Common.{◌≡◌, ℕ, ◌+◌, List, ◌++◌, append_assoc, drop, take, take-append-drop, ap, sym, ◌∙◌}
use Rattle.std.proofs.Math.Seq.{take-add}

-- the bytes so far, and more of those behind them
pub pieces : (before bytes : List ℕ) (taken n : ℕ) → (before ++ take taken bytes) ++ take n (drop taken bytes) ≡ before ++ take (taken + n) bytes
pieces before bytes taken n = append_assoc before (take taken bytes) (take n (drop taken bytes)) ∙ ap (λ l. before ++ l) (sym (take-add taken n bytes))

-- and all of them
pub all_pieces : (before bytes : List ℕ) (taken : ℕ) → (before ++ take taken bytes) ++ drop taken bytes ≡ before ++ bytes
all_pieces before bytes taken = append_assoc before (take taken bytes) (drop taken bytes) ∙ ap (λ l. before ++ l) (take-append-drop taken bytes)
