use Rattle.std.proofs.Common.{◌≡◌, ℕ, ◌+◌, ◌-◌, ◌<◌, ◌≤◌, ◌∙◌, ap, arith, inl, inr, length}
use Rattle.std.proofs.lemmas.Bool.{cases_lt}
use Rattle.sheet.specs.Grid.{row_at}
use Rattle.xterm_page.proofs.caught.move_block.Goals as goal

pub turn_rows-requires : goal.turn_rows-requires
turn_rows-requires c = record {
  low = c.requires.low;
  apart = omega (arith, c.max-next.ensures);
  high = omega (arith, c.max-next.ensures, c.saturating_sub.ensures, c.requires.some, c.requires.high);
}

pub copy_rows-requires : goal.copy_rows-requires
copy_rows-requires c = record {
  low = omega (arith, c.max-next.ensures, c.requires.low);
  apart = omega (arith, c.max-next.ensures, c.saturating_sub.ensures, c.requires.some);
  some = c.requires.up;
  high = omega (arith, c.turn_rows.ensures.whole, c.requires.high);
}

pub returns : goal.returns
returns c =
    let rows = c.args.rows.now in
    let from = c.args.block.from in
    let end = c.args.block.end in
    let shift = c.args.block.shift in
    let next = c.max-next.result in
    let turned = c.turn_rows.new.rows in
    let first : from ≤ next = omega (arith, c.max-next.ensures) in
    let below : next < end = omega (arith, c.max-next.ensures, c.saturating_sub.ensures, c.requires.some, c.requires.up) in
    let over : end ≤ next + shift = omega (arith, c.max-next.ensures, c.saturating_sub.ensures) in
    let tail : (k : ℕ) → end ≤ k → row_at turned k ≡ row_at rows k = λ k past. elim (cases_lt k (next + shift)) [
      | inl within ↦
          let same : k + from - next ≡ k = omega (arith, within, past, c.max-next.ensures, c.saturating_sub.ensures) in
          c.turn_rows.ensures.turned k (omega (arith, below, past)) within ∙ ap (row_at rows) same
      | inr behind ↦ c.turn_rows.ensures.behind k behind
    ] in
    record {
      whole = c.copy_rows.ensures.whole ∙ c.turn_rows.ensures.whole;
      before = λ k low above. c.copy_rows.ensures.before k low (omega (arith, above, first)) ∙ c.turn_rows.ensures.before k low above;
      moved = λ columns wide k low high. elim (cases_lt k next) [
        | inl up ↦ c.copy_rows.ensures.before k (omega (arith, low, c.requires.low)) up ∙ c.turn_rows.ensures.moved k low up
        | inr copied ↦
            c.copy_rows.ensures.copied columns (λ n above under. elim (cases_lt n end) [
              | inl within ↦ ap length (c.turn_rows.ensures.turned n above (omega (arith, within, over)))
                  ∙ wide (n + from - next) (omega (arith, above, first, c.requires.low)) (omega (arith, within, c.requires.high, first, c.requires.up))
              | inr past ↦ ap length (tail n past) ∙ wide n (omega (arith, past, c.requires.low, c.requires.some)) (omega (arith, under, c.requires.high))
            ]) k copied high
            ∙ tail (k + shift) (omega (arith, copied, over))
      ];
      behind = λ k past. c.copy_rows.ensures.behind k past ∙ tail k past;
    }
