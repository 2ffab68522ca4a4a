use Rattle.std.proofs.Common.{◌+◌, ◌-◌, ◌≡◌, Bool, List, ℕ, length, take, drop, subst, sym, ap, ◌∙◌, arith}
use Rattle.sheet.specs.Marked.{IsNext, marks_of}
use Rattle.sheet.proofs.Marked.{all_of_none, all_of_some, bits_in, length_marks, length_piece, next_in_piece, piece_passed, next_later, some_within}
use lib.Count.{count_trailing_zeros}
use lib.Lanes.{mask_l}
use Rattle.sheet.proofs.sheet.marked.next_touched.Goals as goal

pub returns-then-bits-ne0 : goal.returns-then-bits-ne0
returns-then-bits-ne0 c =
    let marks = marks_of c.args.origins.now in
    let at = c.loop-at.at in
    let count = at + 16 - at in
    let piece = take count (drop at marks) in
    let all = length_marks c.args.origins.now in
    let bits_are = bits_in c.args.origins.now at count c.bits_of-bits.result _ (omega arith) c.bits_of-bits.ensures c.block_marks-marks.ensures in
    let long : length piece ≡ count = length_piece marks at count (omega (arith, all)) in
    let is : IsNext piece 0 (count_trailing_zeros 64 c.bits_of-bits.result) =
    subst (λ (n : ℕ). IsNext piece 0 (count_trailing_zeros 64 n)) (sym bits_are)
    (all_of_some piece (omega arith) (omega (arith, bits_are, c.if-bits-ne0.true))) in
    next_in_piece marks c.args.from at count (count_trailing_zeros 64 c.bits_of-bits.result) (omega (arith, all)) c.loop-at.invariant.low c.loop-at.invariant.between is
    (omega (arith, ap (count_trailing_zeros 64) bits_are, some_within piece (omega arith) (omega (arith, bits_are, c.if-bits-ne0.true))))

pub loop-at-preserved : goal.loop-at-preserved
loop-at-preserved c =
    let marks = marks_of c.args.origins.now in
    let at = c.loop-at.at in
    let count = at + 16 - at in
    let piece = take count (drop at marks) in
    let all = length_marks c.args.origins.now in
    let bits_are = bits_in c.args.origins.now at count c.bits_of-bits.result _ (omega arith) c.bits_of-bits.ensures c.block_marks-marks.ensures in
    let long : length piece ≡ count = length_piece marks at count (omega (arith, all)) in
    record {
      low = omega arith;
      high = omega arith;
      between = λ k low high.
          piece_passed marks c.args.from at count (length piece) (omega (arith, all)) c.loop-at.invariant.between (all_of_none piece (sym bits_are ∙ c.if-bits-ne0.false)) (omega arith) k low (omega arith);
    }

pub returns : goal.returns
returns c = next_later (marks_of c.args.origins.now) c.args.from c.loop-at.at c.next_of_rest.result c.loop-at.invariant.low c.loop-at.invariant.between c.next_of_rest.ensures
