use Rattle.std.proofs.Common.{Some, ap, sym, subst, ◌∙◌}
use Rattle.vt_parser.specs.declared.commands.Mode.TheVariants.{Ansi}
use Rattle.vt_parser.specs.Fold.{pending_after_bytes}
use Rattle.vt_parser.proofs.Agrees.{ground_is_empty}
use Rattle.tape_check.specs.declared.quiet.Marks.{Marks}
use Rattle.tape_check.specs.Tallying.{Knows}
use Rattle.tape_check.proofs.TallyTokens.{knows_many, knows_nothing}
use Rattle.tape_check.proofs.tally.Reader.marks_behind.Goals as goal

pub returns-in-Ground : goal.returns-in-Ground
returns-in-Ground c pending knows shown =
    let left = pending_after_bytes Ansi Ansi pending c.args.bytes.now in
    knows_nothing c.args.self.now.marks left (ground_is_empty.1 Ansi left (shown ∙ ap Some (sym c.state.ensures.value ∙ c.in-Ground.is)))

pub returns-in_default : goal.returns-in_default
returns-in_default c pending knows shown =
    subst (λ (m : Marks). Knows m (pending_after_bytes Ansi Ansi pending c.args.bytes.now)) (sym c.behind.ensures)
    (knows_many c.args.bytes.now c.args.self.now.marks pending knows)
