use Rattle.std.proofs.Common.{◌≡◌, ℕ, ◌+◌, ◌∙◌, ap, arith, not, sym}
use Rattle.sheet.specs.Grid.{row_at}
use Rattle.xterm_print.specs.ChangeLines.{same_row}
use Rattle.xterm_print.proofs.moved.push_moved.Goals as goal

pub returns : goal.returns
returns c =
    let rows = c.args.rows.now in
    let shift = c.args.shift in
    let known = c.known-start.ensures in
    let first = c.push_compared-first.ensures in
    let last = c.push_compared.ensures in
    let still : (k : ℕ) → same_row (row_at c.push_compared-first.new.rows k) (row_at c.push_compared-first.new.rows (k + shift)) ≡ same_row (row_at rows k) (row_at rows (k + shift)) =
    λ k. ap (λ l. same_row (row_at l k) (row_at l (k + shift))) first.stay in
    record {
      stay = last.stay ∙ first.stay;
      few = last.few;
      changed = λ p each so_far.
          last.changed p (λ k low high. each k (omega (arith, low, known.low, known.apart)) high ∙ ap not (sym (still k)))
          (c.push_all.ensures.changed p
          (λ k low high. each k (omega (arith, low, known.low)) (omega (arith, high, known.high)) ∙ ap not (known.differ rows c.requires.known k low high))
          (first.changed p (λ k low high. each k low (omega (arith, high, known.apart, known.high))) so_far));
      differ = λ k from below. sym (still k) ∙ last.differ k from below;
    }
