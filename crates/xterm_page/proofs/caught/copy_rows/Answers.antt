use Rattle.std.proofs.Common.{◌≡◌, ◌+◌, ◌≤◌, ◌∙◌, ap, arith, inl, inr, length, refl, sym}
use Rattle.std.proofs.lemmas.Bool.{cases_eq}
use Rattle.sheet.specs.Grid.{row_at}
use Rattle.xterm_page.proofs.caught.copy_rows.Goals as goal

pub loop-line-init : goal.loop-line-init
loop-line-init c = record {
  whole = refl;
  before = λ k low below. refl;
  copied = λ columns wide k low below. absurd (omega (arith, low, below));
  behind = λ k above. refl;
}

pub loop-line-preserved : goal.loop-line-preserved
loop-line-preserved c =
    let line = c.loop-line.line in
    let shift = c.args.shift in
    let rows = c.args.rows.now in
    let kept = c.loop-line.invariant in
    let low : 1 ≤ line = omega arith in
    record {
      whole = c.copy_row.ensures.whole ∙ kept.whole;
      before = λ k here below. c.copy_row.ensures.others k here (λ e. omega (arith, e, below)) ∙ kept.before k here below;
      copied = λ columns wide k from below.
          let there : row_at c.loop-line.rows (line + shift) ≡ row_at rows (line + shift) = kept.behind (line + shift) (omega arith) in
          let own = ap length (kept.behind line (omega arith)) ∙ wide line (omega arith) (omega arith) in
          let other = ap length there ∙ wide (line + shift) (omega arith) (omega arith) in
          elim (cases_eq k line) [
            | inl e ↦ ap (row_at c.copy_row.new.rows) e ∙ c.copy_row.ensures.copied (own ∙ sym other) ∙ there ∙ ap (λ n. row_at rows (n + shift)) (sym e)
            | inr ne ↦ c.copy_row.ensures.others k (omega (arith, from, c.requires.low)) ne ∙ kept.copied columns wide k from (omega (arith, below, ne))
          ];
      behind = λ k above. c.copy_row.ensures.others k (omega (arith, above)) (λ e. omega (arith, e, above)) ∙ kept.behind k (omega (arith, above));
    }

pub returns-clause-copied : goal.returns-clause-copied
returns-clause-copied c = λ columns wide k from below.
    c.loop-line.invariant.copied columns wide k from (omega (arith, below, c.loop-line-test.false))

pub returns-clause-behind : goal.returns-clause-behind
returns-clause-behind c = λ k past. c.loop-line.invariant.behind k (omega (arith, past, c.requires.apart))
