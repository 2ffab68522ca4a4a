use Rattle.std.proofs.Common.{ap, sym, subst, ◌∙◌}
use Rattle.vt_parser.specs.declared.commands.Mode.{Mode}
use Rattle.vt_parser.specs.declared.commands.Mode.TheVariants.{Ansi}
use Rattle.vt_parser.specs.View.{parser_view}
use Rattle.vt_parser.specs.Step.{pending_after}
use Rattle.tape_check.specs.declared.quiet.Marks.{Marks}
use Rattle.tape_check.specs.Tallying.{Knows}
use Rattle.tape_check.proofs.ScanLemmas.{mode_same}
use Rattle.tape_check.proofs.TallyLemmas.{knows_after}
use Rattle.tape_check.proofs.tally.Reader.step.Goals as goal

pub returns : goal.returns
returns c t at =
    let byte = c.args.byte in
    let left = pending_after Ansi t.sequence byte in
    record {
      title = at.title;
      state = ap (λ (m : Mode). parser_view m left) (sym (mode_same Ansi byte)) ∙ c.step.ensures.state Ansi t.sequence at.state;
      character = at.character;
      marks = subst (λ (k : Marks). Knows k left) (sym c.after-self.ensures) (knows_after c.args.self.now.marks t.sequence byte at.marks);
      entries = at.entries;
      parts = at.parts;
    }
