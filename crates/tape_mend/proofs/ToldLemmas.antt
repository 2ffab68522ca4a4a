-- The pieces of what is told.
use Rattle.std.proofs.Common.{◌≡◌, ℕ, List, ◌++◌, codes, refl, ap, ◌∙◌, append_assoc}
use Rattle.std.specs.Fmt.{decimal}
use Rattle.tape_mend.specs.declared.line.LineFault.{LineFault}
use Rattle.tape_mend.specs.declared.line.LineFault.TheVariants as fault
use Rattle.tape_mend.specs.Steps.{what_is_wrong}
use Rattle.tape_mend.specs.Told.{line_message}

regrouped : (a b c rest : List ℕ) → ((a ++ b) ++ c) ++ rest ≡ a ++ (b ++ (c ++ rest))
regrouped a b c rest = simp append_assoc

-- the text of a line's fault is the words, the number, and what is wrong
message : (n : ℕ) (f : LineFault) → line_message n f ≡ (codes "timing line " ++ decimal n) ++ what_is_wrong f
message n fault.BadStream = refl
message n fault.BadDelay = refl
message n fault.BadCount = refl
message n fault.MultiStream = refl
message n fault.DelayTooLarge = refl
message n fault.ChunkTooLong = refl
message n fault.TooManyChunks = refl
message n fault.TooManyBytes = refl

pub message_pieces : (n : ℕ) (f : LineFault) (rest : List ℕ)
    → line_message n f ++ rest ≡ codes "timing line " ++ (decimal n ++ (what_is_wrong f ++ rest))
message_pieces n f rest = ap (λ text. text ++ rest) (message n f) ∙ regrouped (codes "timing line ") (decimal n) (what_is_wrong f) rest
