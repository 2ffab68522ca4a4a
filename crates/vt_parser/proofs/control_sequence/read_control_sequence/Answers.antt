use Rattle.std.proofs.Common.{ℕ, List, take, refl, subst}
use Rattle.std.proofs.lemmas.List.{take_rest}
use Rattle.vt_parser.specs.declared.commands.Mode.TheVariants.{Ansi}
use Rattle.vt_parser.specs.declared.states.ParserState.TheVariants.{CsiStart}
use Rattle.vt_parser.specs.Machine.{Arrives}
use Rattle.vt_parser.specs.Reading.{event_transition}
use Rattle.vt_parser.proofs.Collecting.{opening_runs}
use Rattle.vt_parser.proofs.control_sequence.read_control_sequence.Goals as goal

pub returns-then-is_empty-clause-runs : goal.returns-then-is_empty-clause-runs
returns-then-is_empty-clause-runs c = λ start. opening_runs start c.args.bytes.now 0 _ c.requires.first c.requires.second c.requires.long
    (record { runs = refl; passes = tt })

pub returns-clause-runs : goal.returns-clause-runs
returns-clause-runs c = λ start.
    let bytes = c.args.bytes.now in
    let read = c.read_first-taken in
    let step = event_transition read.result.1 read.new.params read.new.state in
    opening_runs start bytes read.result.0 step c.requires.first c.requires.second c.requires.long
    (subst (λ (text : List ℕ). Arrives CsiStart Ansi (take read.result.0 text) step) (take_rest bytes 2) (read.ensures.runs Ansi))
