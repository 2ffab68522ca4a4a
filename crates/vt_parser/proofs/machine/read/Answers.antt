use Rattle.std.proofs.Common.{sym, arith}
use Rattle.vt_parser.proofs.Collecting.{control_runs, nuls_run}
use Rattle.vt_parser.proofs.machine.read.Goals as goal
use Rattle.vt_parser.proofs.machine.read.Goals.{in-Ground, in_default}

pub returns-then-is_effective-clause-runs : goal.returns-then-is_effective-clause-runs
returns-then-is_effective-clause-runs c =
    elim c.match-matches.branch [
      | in-Ground w ↦ control_runs c.args.state.now c.args.mode c.args.bytes.now c.requires.some
          w.in-Ground.is (sym c.if-is_effective.ensures.value)
      | in_default w ↦ absurd (grind (arith, w.matches-is, c.if-matches.true))
    ]

pub returns-then-is_nul-clause-runs : goal.returns-then-is_nul-clause-runs
returns-then-is_nul-clause-runs c = nuls_run c.args.state.now c.args.mode c.args.bytes.now c.nul_run.result (omega (arith, c.nul_run.ensures.value))
