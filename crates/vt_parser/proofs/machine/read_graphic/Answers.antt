use Rattle.std.proofs.Common.{sym, ◌∙◌, subst, arith}
use Rattle.vt_parser.specs.declared.states.ParserState.{ParserState}
use Rattle.vt_parser.specs.Reading.{Reads}
use Rattle.vt_parser.proofs.Collecting.{runs_one}
use Rattle.vt_parser.proofs.Whole.{joins_off}
use Rattle.vt_parser.proofs.machine.read_graphic.Goals as goal

pub returns-in-CsiStart-clause-runs : goal.returns-in-CsiStart-clause-runs
returns-in-CsiStart-clause-runs c = λ mode.
    let read = c.read_first in
    let Q : ParserState → Type 0 = λ state. Reads state mode c.args.bytes.now read.result read.new.params read.new.state in
    subst Q (sym c.in-CsiStart.is) (read.ensures.runs mode)

pub returns-in_default : goal.returns-in_default
returns-in_default c =
    let state = c.args.state.now in
    let bytes = c.args.bytes.now in
    record {
      some = omega arith;
      within = omega arith;
      lent = c.join.ensures.lent;
      runs = λ mode. runs_one state mode bytes _ c.requires.some
          (joins_off state mode _ c.requires.off c.requires.graphic ∙ sym (c.join.ensures.comes c.args.params.now));
    }
