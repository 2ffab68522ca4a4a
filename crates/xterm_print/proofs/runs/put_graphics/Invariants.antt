use Rattle.std.proofs.Common.{◌≡◌, ◌<◌, ◌++◌, ◌∷◌, List, ℕ, take, true}
use Rattle.std.specs.Prelude.{slice_index_or}
use Rattle.vt_parser.specs.Syntax.{is_graphic}
use Rattle.xterm_rows.specs.Runs.{cell_behind}
use Rattle.xterm_print.specs.Pieces.{AreApart, AreFollowers, IsPlain}
use Rattle.xterm_print.proofs.runs.put_graphics.Given as goal

-- those so far are put and may be, and the last of them is at hand
abbrev pub invariant-loop-at : goal.invariant-loop-at
invariant-loop-at l = record {
  put : l.letters.items ≡ l.fn.letters.items ++ take l.at l.bytes;
  graphic : (k : ℕ) → k < l.at → is_graphic (slice_index_or l.bytes k 0) ≡ true;
  plain : (k : ℕ) → k < l.at → IsPlain (cell_behind l.cells k);
  apart : (text : List ℕ) → AreFollowers text l.followers.marks l.followers.pairs
      → (k : ℕ) → k < l.at → AreApart text (slice_index_or (l.fn.last ∷ l.bytes) k 0) (cell_behind l.cells k).character;
  one : l.one ≡ slice_index_or (l.fn.last ∷ l.bytes) l.at 0;
}
