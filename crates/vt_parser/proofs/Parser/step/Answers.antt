use Rattle.std.proofs.Common.{Option, Some, IfSome, sym, ap, ◌∙◌, subst}
use Rattle.vt_parser.specs.declared.commands.Token.{Token}
use Rattle.vt_parser.specs.Law.{IsProper}
use Rattle.vt_parser.specs.Token.{command_of_token}
use Rattle.vt_parser.specs.Reading.{command_told}
use Rattle.vt_parser.proofs.Telling.{step_told}
use Rattle.vt_parser.proofs.Parser.step.Goals as goal

pub command-requires : goal.command-requires
command-requires c =
    let P : Option Token → Type 0 = λ token. IfSome token (λ it. IsProper (command_of_token it)) in
    subst P c.in-Some.is c.next.ensures.proper

pub returns-in-Some-clause-command : goal.returns-in-Some-clause-command
returns-in-Some-clause-command c = λ mode pending view.
    let next = c.next in
    ap Some c.command.ensures
    ∙ sym (step_told c.args.mode mode pending c.args.byte next.result.0 next.result.1 next.ensures.some
    next.ensures.within (next.ensures.told mode pending view)
    ∙ ap command_told c.in-Some.is)

pub returns-in-Some-clause-proper : goal.returns-in-Some-clause-proper
returns-in-Some-clause-proper c =
    let P : Option Token → Type 0 = λ token. IfSome token (λ it. IsProper (command_of_token it)) in
    subst IsProper (sym c.command.ensures) (subst P c.in-Some.is c.next.ensures.proper)
