use Rattle.std.proofs.Common.{sym, subst, ◌∙◌}
use Rattle.std.specs.Prelude.{OnOk}
use Rattle.tape_check.specs.Tally.{Tally}
use Rattle.tape_check.specs.Tallying.{IsAt}
use Rattle.tape_check.proofs.TallyLemmas.{read_titled, read_as_upper, tallied_anew}
use Rattle.tape_check.proofs.tally.Reader.read.Goals as goal

pub returns-then-self : goal.returns-then-self
returns-then-self c t at =
    subst (IsAt c.read_title.new.self) (sym (read_titled t c.args.byte (at.title ∙ c.if-self.true))) (c.read_title.ensures t at)

pub returns-then-is_upper : goal.returns-then-is_upper
returns-then-is_upper c t at =
    subst (λ (o : Tally). OnOk c.read_upper.result (IsAt c.read_upper.new.self o))
    (sym (read_as_upper t c.args.byte (at.title ∙ c.if-self.false) (sym (c.is_upper.ensures t at) ∙ c.if-is_upper.true)))
    (c.read_upper.ensures t at)

pub returns : goal.returns
returns c t at =
    subst (λ (o : Tally). OnOk c.read_alone.result (IsAt c.read_alone.new.self o)) (tallied_anew t c.args.byte (at.character ∙ c.requires))
    (c.read_alone.ensures t at)
