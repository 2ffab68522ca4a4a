use Rattle.std.proofs.Common.{◌≤◌, ◌≡◌, ℕ, ◌+◌, ◌-◌, ◌∙◌, List, length, sym, ap, subst, arith}
use Rattle.std.specs.Prelude.{false}
use Rattle.std.specs.List.{CopiedTo, SameBelow}
use Rattle.sheet.specs.Cells.{Cell}
use Rattle.sheet.specs.Cells.{cell_at, is_covered}
use Rattle.sheet.specs.Halves.{Whole, parted}
use Rattle.sheet.specs.Edits.{filled, taken_out}
use Rattle.sheet.proofs.Rows.{mended_whole}
use Rattle.sheet.proofs.Tables.{length-table}
use Rattle.sheet.proofs.Shifts.{left_copied, left_whole, parted_whole, parted_open, parted_still_open}
use Rattle.sheet.proofs.row.delete.Goals as goal

pub part-requires-2-clause-whole : goal.part-requires-2-clause-whole
part-requires-2-clause-whole c = subst Whole (sym c.part.ensures) (parted_whole c.args.from c.args.paper c.args.cells.now c.requires.whole c.requires.low)

pub returns : goal.returns
returns c =
    let row = c.args.cells.now in
    let n = c.args.n in
    let from = c.args.from in
    let paper = c.args.paper in
    let one = parted from paper row in
    let two = parted (from + n) paper one in
    let after = c.copy_within.new.self in
    let cell = c.blank.result in
    let is_two : c.part-2.new.cells ≡ two = c.part-2.ensures ∙ ap (parted (from + n) paper) c.part.ensures in
    let len_one : length one ≡ length row = length-table (length row) _ in
    let len : length two ≡ length row = length-table (length one) _ ∙ len_one in
    let whole_one : Whole one = parted_whole from paper row c.requires.whole c.requires.low in
    let whole_two : Whole two = parted_whole (from + n) paper one whole_one (omega arith) in
    let start : is_covered (cell_at two from) ≡ false = parted_still_open (from + n) paper one whole_one (omega arith) from (parted_open from paper row c.requires.whole c.requires.low) in
    let end : is_covered (cell_at two (from + n)) ≡ false = parted_open (from + n) paper one whole_one (omega arith) in
    let room : from + n ≤ length two + 1 = omega arith in
    let by = c.copy_within.ensures.by_index in
    c.fill.ensures ∙ ap (λ (m : ℕ). filled (m + 1 - n) m cell after) (sym len)
    ∙ left_copied two n from paper c.requires.low room after cell (c.copy_within.ensures.len ∙ ap length is_two) c.blank.ensures
    (subst (λ (r : List Cell). CopiedTo r after (from + n - 1) (from - 1) (length two - (from + n - 1))) is_two
    (subst (λ (m : ℕ). CopiedTo c.part-2.new.cells after (from + n - 1) (from - 1) (m - (from + n - 1))) (sym len) by.0))
    (subst (λ (r : List Cell). SameBelow r after (from - 1)) is_two by.1)
    ∙ sym (mended_whole paper (taken_out n from paper two) (left_whole two n from paper c.requires.low room whole_two start end))
