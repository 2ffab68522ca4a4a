use Rattle.std.proofs.Common.{◌%◌, ◌∙◌, ap, ℕ, List, map, not, cond, eqb, replicate}
use Rattle.sheet.proofs.Marked.{numbers_mask}
use lib.Lanes.{mask_l, top, zip2}
use Rattle.sheet.proofs.sheet.marked.bits_of.Goals as goal

pub returns : goal.returns
returns c =
    ap (λ (numbers : List ℕ). mask_l (map (top 7) (zip2 (λ (a b : ℕ). cond (not (eqb a b)) 255 0) numbers (replicate 16 0))) % 18446744073709551616) c.numbers_of.ensures
    ∙ numbers_mask c.args.marks.now c.requires
