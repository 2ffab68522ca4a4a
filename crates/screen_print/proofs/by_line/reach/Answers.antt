use Rattle.std.proofs.Common.{ℕ, ◌+◌, ◌-◌, ◌<◌, ◌≤◌, ◌∙◌, All, ap, arith, get_or, length, subst, sym, take}
use Rattle.std.proofs.lemmas.List.{take_all}
use Rattle.std.proofs.lemmas.List.Elements.{All-get_or, All-more}
use Rattle.screen_print.specs.ByLine.{IsApart, IsOnScreen, row_on}
use Rattle.screen_print.specs.FindLines.{place_in}
use Rattle.screen_print.proofs.ByLineLemmas.{apart_behind}
use Rattle.screen_print.proofs.by_line.reach.Goals as goal
use Rattle.screen_print.proofs.by_line.reach.Goals.{then-place-shared, else-place-shared}

pub loop-place-preserved : goal.loop-place-preserved
loop-place-preserved c =
    let still = c.args.still.now in
    let line = c.args.line in
    let lost = c.args.lost.now in
    let i = c.loop-place.place-index in
    let place = get_or lost i (place_in 0 0) in
    let row = row_on still line in
    let shared = c.alike_len-shared.result in
    let kept = c.loop-place.invariant in
    let apart : (column : ℕ) → 1 ≤ column → column ≤ length row → (place.column ≤ column → shared < column - 1) → IsApart still (take (column - 1) row) place =
    λ column low high far.
    apart_behind still line column place low high
    (λ near same. c.alike_len-shared.ensures.most (column - 1) (far near) (omega (arith, c.cells-cells.ensures.long))
    (ap (take (column - 1)) c.cells-cells.ensures.text ∙ same ∙ sym (ap (take (column - 1)) c.cells.ensures.text))) in
    let more : (column : ℕ) → All (IsApart still (take (column - 1) row)) (take i lost) → IsApart still (take (column - 1) row) place
    → All (IsApart still (take (column - 1) row)) (take (i + 1) lost) =
    λ column before here. All-more (IsApart still (take (column - 1) row)) lost i (place_in 0 0) c.loop-place-test.true before here in
    elim c.if-place-shared.branch [
      | then-place-shared w ↦
          let test = w.if-place-shared.true in
          let first = w.first-is ∙ w.min-first.ensures in
          let last = w.last-is ∙ w.max-last.ensures in
          let least = w.min.ensures in
          record {
            first = omega (arith, kept.first, first, (All-get_or IsOnScreen lost i (place_in 0 0) c.loop-place-test.true c.requires.lines).2);
            near = omega (arith, kept.near, first);
            last = omega (arith, kept.last, last, least, c.cells-cells.ensures.long);
            before = λ column low lt high. more column (kept.before column low (omega (arith, lt, first)) high) (apart column low high (λ near. absurd (omega (arith, near, lt, first))));
            behind = λ column gt high. more column (kept.behind column (omega (arith, gt, last)) high) (apart column (omega (arith, gt, last)) high (λ near. omega (arith, gt, high, last, least, c.cells-cells.ensures.long)));
          }
      | else-place-shared w ↦
          let test = w.if-place-shared.false in
          let first = w.first-is in
          let last = w.last-is in
          record {
            first = omega (arith, kept.first, first);
            near = omega (arith, kept.near, first);
            last = omega (arith, kept.last, last);
            before = λ column low lt high. more column (kept.before column low (omega (arith, lt, first)) high) (apart column low high (λ near. omega (arith, near, test)));
            behind = λ column gt high. more column (kept.behind column (omega (arith, gt, last)) high) (apart column (omega (arith, gt)) high (λ near. omega (arith, near, test)));
          }
    ]

pub returns-clause-before : goal.returns-clause-before
returns-clause-before c = λ column low lt high.
    subst (All (IsApart c.args.still.now (take (column - 1) (row_on c.args.still.now c.args.line)))) (take_all c.loop-place.place-index c.args.lost.now (omega arith))
    (c.loop-place.invariant.before column low lt high)

pub returns-clause-behind : goal.returns-clause-behind
returns-clause-behind c = λ column gt high.
    subst (All (IsApart c.args.still.now (take (column - 1) (row_on c.args.still.now c.args.line)))) (take_all c.loop-place.place-index c.args.lost.now (omega arith))
    (c.loop-place.invariant.behind column gt high)
