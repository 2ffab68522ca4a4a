use Rattle.std.proofs.Common.{◌≡◌, ℕ, ◌<◌, ◌≤◌, length}
use Rattle.vt_screen.specs.Cells.{row_at}
use Rattle.screen_page.specs.Numbered.{number_at_line, row_number}
use Rattle.screen_page.proofs.numbered.numbers_of.Given as goal

-- the lines so far have their numbers, and the others have those of before
abbrev pub invariant-loop-line : goal.invariant-loop-line
invariant-loop-line l = record {
  long : length l.these ≡ 24;
  numbered : (k : ℕ) → 1 ≤ k → k < l.line → number_at_line l.these k ≡ row_number (row_at l.screen.picture.rows k);
  still : (k : ℕ) → l.line ≤ k → number_at_line l.these k ≡ number_at_line l.numbers k;
}
