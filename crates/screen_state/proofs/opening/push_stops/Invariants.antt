use Rattle.std.proofs.Common.{◌≡◌, ◌+◌, ◌-◌, ◌*◌, ◌≤◌, ◌++◌, ◌∷◌, length}
use Rattle.std.specs.Prelude.{codes}
use Rattle.vt_parser.specs.Syntax.{escape}
use Rattle.screen_state.specs.StateText.{stops_to}
use Rattle.screen_state.proofs.opening.push_stops.Given as goal

-- the stops of the columns before this one are written
abbrev pub invariant-loop-column : goal.invariant-loop-column
invariant-loop-column l = record {
  text : l.text.items ≡ l.fn.text.items ++ (escape ∷ codes "[?3h" ++ escape ∷ codes "[3g" ++ stops_to l.fn.screen.picture.tabs (l.column - 1));
  short : length l.text.items ≤ length l.fn.text.items + 9 + 12 * (l.column - 1);
}
