use Rattle.std.proofs.Common.{sym, ◌∙◌}
use Rattle.vt_parser.proofs.Endings.{formless_is_seen}
use Rattle.vt_parser.proofs.states.ParserState.formless_with.Goals as goal

pub returns : goal.returns
returns c = λ m pending view. c.formless_at.ensures ∙ sym (formless_is_seen m pending c.args.self.now c.args.byte view)
