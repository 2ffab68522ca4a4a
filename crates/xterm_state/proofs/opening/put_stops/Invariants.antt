use Rattle.std.proofs.Common.{◌-◌, ◌++◌, ◌∷◌}
use Rattle.std.specs.Prelude.{codes}
use Rattle.tape_core.specs.Devices.{Gave}
use Rattle.vt_parser.specs.Syntax.{escape}
use Rattle.xterm_state.specs.StateText.{stops_to}
use Rattle.xterm_state.proofs.opening.put_stops.Given as goal

-- the stops of the columns before this one have gone out
abbrev pub invariant-loop-column : goal.invariant-loop-column
invariant-loop-column g l =
    Gave g.W.Write.contents l.fn.writer l.writer (escape ∷ codes "[3g" ++ stops_to l.fn.screen.picture.tabs (l.column - 1))
