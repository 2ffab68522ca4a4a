use Rattle.std.proofs.Common.{◌≡◌, false, get_or, sym, ap, ◌∙◌, arith}
use Rattle.std.proofs.lemmas.Bool.Decides.{nat_tests}
use Rattle.vt_parser.specs.Syntax.{escape}
use Rattle.xterm_term.specs.Reading.{is_ground_state}
use Rattle.xterm_term.specs.Seen.{Seen}
use Rattle.xterm_term.proofs.Taken.{goes_by_text, goes_by_escape}
use Rattle.xterm_term.proofs.terminal.Terminal.sequence_at.Goals as goal

pub returns-then-is_open-clause-goes : goal.returns-then-is_open-clause-goes
returns-then-is_open-clause-goes c some =
    let inside : is_ground_state c.args.self.now.state ≡ false
    = ap is_ground_state (sym (ap (λ (s : Seen). s.state) c.self.view_is) ∙ sym c.state.ensures.value) ∙ c.is_open.ensures c.if-is_open.true in
    goes_by_text c.args.self.now.state c.args.bytes.now c.printable_run.result c.printable_run.ensures.value c.printable_run.ensures.within inside some

pub returns-then-bytes-eq-ESC-clause-goes : goal.returns-then-bytes-eq-ESC-clause-goes
returns-then-bytes-eq-ESC-clause-goes c some =
    let is : get_or c.args.bytes.now 0 0 ≡ escape = grind (arith, nat_tests) in
    goes_by_escape c.args.self.now.state c.args.bytes.now c.printable_run-then-bytes-eq-ESC.result c.requires is c.printable_run-then-bytes-eq-ESC.ensures.value
