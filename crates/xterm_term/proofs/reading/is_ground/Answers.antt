use Rattle.std.proofs.Common.{ap, ◌∙◌}
use Rattle.xterm_term.specs.Reading.{is_ground_state}
use Rattle.xterm_term.proofs.Parts.{ground_shown}
use Rattle.xterm_term.proofs.reading.is_ground.Goals as goal

pub returns : goal.returns
returns c sequence stands = c.is_ground_state.ensures ∙ ap is_ground_state c.state.ensures.value ∙ ground_shown sequence c.args.parser.now stands
