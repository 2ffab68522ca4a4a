use Rattle.std.proofs.Common.{◌≡◌, ◌-◌, ◌≤◌, take}
use Rattle.std.specs.List.{flat_map}
use Rattle.chunk_walk.specs.ChangeLine.{spaced_number}
use Rattle.chunk_walk.specs.Runs.{run_text}
use Rattle.chunk_walk.proofs.change_line.run_blocks.Given as goal

-- the numbers so far are a run
abbrev pub invariant-loop-count : goal.invariant-loop-count
invariant-loop-count g l = record {
  high : l.count ≤ l.most;
  run : flat_map (spaced_number g.N.Integer.text) (take l.count l.numbers) ≡ run_text l.first l.count;
}

abbrev pub decreases-loop-count : goal.decreases-loop-count
decreases-loop-count g l = l.most - l.count
