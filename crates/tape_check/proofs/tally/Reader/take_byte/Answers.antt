use Rattle.std.proofs.Common.{ℕ, List, ◌<◌, length, sym, subst, ◌∙◌}
use Rattle.std.specs.Prelude.{OnOk}
use Rattle.tape_check.specs.Tally.{Tally}
use Rattle.tape_check.specs.Tallying.{IsAt}
use Rattle.tape_check.proofs.TallyLemmas.{tallied_on, tallied_anew}
use Rattle.tape_check.proofs.tally.Reader.take_byte.Goals as goal

pub returns-then-is_pending : goal.returns-then-is_pending
returns-then-is_pending c t at =
    subst (λ (o : Tally). OnOk c.go_on.result (IsAt c.go_on.new.self o))
    (sym (tallied_on t c.args.byte
    (subst (λ (l : List ℕ). 0 < length l) (sym at.character) (c.is_pending.ensures.some c.if-is_pending.true))))
    (c.go_on.ensures t at)

pub returns : goal.returns
returns c t at =
    subst (λ (o : Tally). OnOk c.read.result (IsAt c.read.new.self o))
    (sym (tallied_anew t c.args.byte (at.character ∙ c.is_pending.ensures.none c.if-is_pending.false)))
    (c.read.ensures t at)
