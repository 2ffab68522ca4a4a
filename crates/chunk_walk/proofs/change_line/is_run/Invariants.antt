use Rattle.std.proofs.Common.{◌≡◌, false, take}
use Rattle.std.specs.List.{flat_map}
use Rattle.chunk_walk.specs.ChangeLine.{spaced_number}
use Rattle.chunk_walk.specs.Runs.{run_text}
use Rattle.chunk_walk.proofs.change_line.is_run.Given as goal

-- the numbers so far are a run, if it isn't broken
abbrev pub invariant-loop-i : goal.invariant-loop-i
invariant-loop-i g l = l.broken ≡ false → flat_map (spaced_number g.N.Integer.text) (take l.i l.numbers) ≡ run_text l.first l.i
