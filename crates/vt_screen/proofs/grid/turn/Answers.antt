use Rattle.std.proofs.Common.{◌≡◌, ℕ, ◌+◌, ◌-◌, ◌≤◌, List, length, get_or, inl, inr, sym, ap, ◌∙◌, arith, rules}
use Rattle.std.specs.List.{RotatedLeft}
use Rattle.std.proofs.lemmas.Bool.{cases_lt}
use Rattle.std.proofs.lemmas.Bool.Decides.{nat_tests}
use Rattle.std.proofs.lemmas.List.{places}
use borrow.Rule.Slice.PartMut.{put_mid, mid_of}
use Rattle.vt_screen.specs.Slots.{slot_at, line_below, turned_up}
use Rattle.vt_screen.proofs.Tables.{is_table, nth_is}
use Rattle.vt_screen.proofs.grid.turn.Goals as goal

names_turned : (order part : List ℕ) (n top bottom : ℕ) → length order ≡ 24 → 1 ≤ top → top ≤ bottom → bottom ≤ 24
    → top + n ≤ bottom + 1 → length part ≡ length (mid_of (top - 1) (bottom - (top - 1)) order)
    → RotatedLeft (mid_of (top - 1) (bottom - (top - 1)) order) part (length (mid_of (top - 1) (bottom - (top - 1)) order)) n
    → put_mid (top - 1) (bottom - (top - 1)) order part ≡ turned_up n top bottom order
names_turned order part n top bottom whole low apart high room len rotated =
    let mid = mid_of (top - 1) (bottom - (top - 1)) order in
    let len_mid : length mid ≡ bottom - (top - 1) = search (rules, places) in
    is_table 0 24 _ (λ line. slot_at order (line_below n top bottom line)) (search (rules, places)) (λ k below.
    let read = nth_is 0 order (line_below n top bottom (k + 1)) in
    elim (cases_lt k (top - 1)) [
      | inl above ↦ (let here : get_or (put_mid (top - 1) (bottom - (top - 1)) order part) k 0 ≡ get_or order k 0 = grind (arith, places) in
          let same : line_below n top bottom (k + 1) - 1 ≡ k = grind (arith, nat_tests) in
          here ∙ ap (λ (i : ℕ). get_or order i 0) (sym same) ∙ sym read)
      | inr from ↦ elim (cases_lt k bottom) [
        | inl within ↦
            let here : get_or (put_mid (top - 1) (bottom - (top - 1)) order part) k 0 ≡ get_or part (k - (top - 1)) 0 = grind (arith, places) in
            elim (cases_lt (k - (top - 1) + n) (bottom - (top - 1))) [
              | inl stays ↦ (let turned = rotated.0 (k - (top - 1)) 0 (omega arith) in
                  let there : get_or mid (k - (top - 1) + n) 0 ≡ get_or order (k + n) 0 = grind (arith, places) in
                  let same : line_below n top bottom (k + 1) - 1 ≡ k + n = grind (arith, nat_tests) in
                  here ∙ turned ∙ there ∙ ap (λ (i : ℕ). get_or order i 0) (sym same) ∙ sym read)
              | inr comes ↦ (let turned = rotated.1 (k - (top - 1)) 0 (omega arith) (omega arith) in
                  let there : get_or mid (k - (top - 1) + n - length mid) 0 ≡ get_or order (k + n - (bottom - (top - 1))) 0 = grind (arith, places) in
                  let same : line_below n top bottom (k + 1) - 1 ≡ k + n - (bottom - (top - 1)) = grind (arith, nat_tests) in
                  here ∙ turned ∙ there ∙ ap (λ (i : ℕ). get_or order i 0) (sym same) ∙ sym read)
            ]
        | inr past ↦ (let here : get_or (put_mid (top - 1) (bottom - (top - 1)) order part) k 0 ≡ get_or order k 0 = grind (arith, places) in
            let same : line_below n top bottom (k + 1) - 1 ≡ k = grind (arith, nat_tests) in
            here ∙ ap (λ (i : ℕ). get_or order i 0) (sym same) ∙ sym read)
      ]
    ])

pub returns : goal.returns
returns c =
    names_turned c.args.order.now c.rotate_left.new.self c.args.n c.args.top c.args.bottom c.told-order c.requires.low c.requires.apart c.requires.high c.requires.room c.rotate_left.ensures.len c.rotate_left.ensures.by_index
