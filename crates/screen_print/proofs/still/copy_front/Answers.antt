use Rattle.std.proofs.Common.{◌≡◌, ◌++◌, ◌+◌, ◌-◌, ℕ, List, length, get_or, drop, take, refl, sym, ap, inl, inr, ◌∙◌, arith}
use Rattle.std.proofs.lemmas.Bool.{cases_lt}
use Rattle.std.proofs.lemmas.List.{get_or-append_right, get_or-drop, get_or-take, get_or_append_left, length-append, length-drop, length-take}
use Rattle.std.proofs.lemmas.List.FromFn.{fill_by_all}
use Rattle.vt_screen.specs.declared.cell.Cell.{Cell}
use Rattle.vt_screen.specs.Cells.{blank}
use Rattle.vt_screen.specs.Table.{nth}
use Rattle.screen_print.proofs.still.copy_front.Goals as goal

nth_next : (cells : List Cell) (k : ℕ) → nth blank cells (k + 1) ≡ get_or cells k blank
unfolding nth
nth_next cells k = ap (λ i. get_or cells i blank) (omega arith)

pub returns : goal.returns
returns c =
    let cells = c.args.cells.now in
    let others = c.args.others.now in
    let front = c.copy_from_slice.new.self in
    let is : front ≡ take 80 others = c.copy_from_slice.ensures.after in
    let long : length front ≡ 80 = omega (arith, ap length is, length-take 80 others, c.type_inv.others) in
    let whole : length (front ++ drop 80 cells) ≡ 132 = omega (arith, length-append front (drop 80 cells), long, length-drop 80 cells, c.told-cells) in
    fill_by_all (λ k. get_or others k blank) (front ++ drop 80 cells) 132 blank whole
    (λ k lt. elim (cases_lt k 80) [
      | inl within ↦
          get_or_append_left front (drop 80 cells) blank k (omega (arith, long, within))
          ∙ ap (λ (l : List Cell). get_or l k blank) is ∙ get_or-take 80 others k blank within
      | inr past ↦
          let back : 80 + (k - 80) ≡ k = omega (arith, past) in
          get_or-append_right front (drop 80 cells) 80 k blank long past
          ∙ get_or-drop 80 cells (k - 80) blank ∙ ap (λ n. get_or cells n blank) back
          ∙ sym (nth_next cells k) ∙ c.requires (k + 1) (omega arith) ∙ nth_next others k
    ])
    ∙ sym (fill_by_all (λ k. get_or others k blank) others 132 blank c.type_inv.others (λ k lt. refl))
