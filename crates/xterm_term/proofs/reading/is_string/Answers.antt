use Rattle.std.proofs.Common.{ap, ◌∙◌}
use Rattle.xterm_term.specs.Reading.{is_text_state}
use Rattle.xterm_term.proofs.Parts.{text_shown}
use Rattle.xterm_term.proofs.reading.is_string.Goals as goal

pub returns : goal.returns
returns c sequence stands = c.is_text_state.ensures ∙ ap is_text_state c.state.ensures.value ∙ text_shown sequence c.args.parser.now stands
