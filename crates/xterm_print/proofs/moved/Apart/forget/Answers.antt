use Rattle.std.proofs.Common.{◌≡◌, ◌≢◌, ℕ, ◌+◌, ◌<◌, ◌≤◌, ◌∙◌, List, ap, ap₂, arith, refl}
use Rattle.sheet.specs.Cells.{Cell}
use Rattle.sheet.specs.Grid.{row_at}
use Rattle.xterm_print.specs.ChangeLines.{same_row}
use Rattle.xterm_print.specs.Kept.{AreApart}
use Rattle.xterm_print.specs.declared.moved.Apart.{Apart}
use Rattle.xterm_print.proofs.moved.Apart.forget.Goals as goal
use Rattle.xterm_print.proofs.moved.Apart.forget.Goals.{else-line-self-via-then-line-self+else-self-line, else-line-self-via-else-line-self}

-- what holds of some lines still does of those of them that hold no line that changed
fewer : (old new : Apart) (line : ℕ) (rows others : List (List Cell)) → AreApart old rows → ((k : ℕ) → 1 ≤ k → k ≢ line → row_at others k ≡ row_at rows k)
    → new.from ≡ old.from → new.shift ≡ old.shift → new.end ≤ old.end → ((k : ℕ) → new.from ≤ k → k < new.end → k ≢ line) → AreApart new others
fewer old new line rows others apart same from shift end outside = record {
  low = omega (arith, apart.low, from);
  differ = λ k low below.
      ap₂ (λ (a b : List Cell). same_row a b) (same k (omega (arith, low, from, apart.low)) (outside k low (omega (arith, below))))
      (same (k + new.shift) (omega (arith, low, from, apart.low)) (outside (k + new.shift) (omega (arith, low)) below))
      ∙ ap (λ s. same_row (row_at rows k) (row_at rows (k + s))) shift ∙ apart.differ k (omega (arith, low, from)) (omega (arith, below, shift, end));
}

pub returns-then-self-line : goal.returns-then-self-line
returns-then-self-line c = λ rows others apart same.
    fewer c.args.self.now (record { from = c.args.self.now.from; end = c.args.line; shift = c.args.self.now.shift }) c.args.line rows others apart same refl refl (omega arith) (λ k low below. omega (arith, below))

pub returns-else-line-self : goal.returns-else-line-self
returns-else-line-self c = λ rows others apart same.
    fewer c.args.self.now c.args.self.now c.args.line rows others apart same refl refl (omega arith) (λ k low below. elim c.else-line-self.branch [
      | else-line-self-via-then-line-self+else-self-line w ↦ let above = w.if-self-line.false in omega (arith, low, above)
      | else-line-self-via-else-line-self w ↦ let past = w.if-line-self.false in omega (arith, below, past)
    ])
