use Rattle.std.proofs.Common.{arith}
use Rattle.vt_parser.specs.Reading.{event_transition}
use Rattle.vt_parser.proofs.Collecting.{start_runs}
use Rattle.vt_parser.proofs.control_sequence.read_first.Goals as goal

pub returns-clause-runs : goal.returns-clause-runs
returns-clause-runs c = λ mode.
    let step = event_transition c.read_text.result.1 c.read_text.new.params c.read_text.new.state in
    start_runs mode c.args.bytes.now c.read_text.result.0 c.from.result step c.read_text.ensures.some c.requires.some c.requires.graphic (grind (arith, c.from.ensures)) c.read_text.ensures.runs
