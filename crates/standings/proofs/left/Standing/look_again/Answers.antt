use Rattle.std.proofs.Common.{◌∙◌, ap, sym}
use Rattle.std.proofs.lemmas.Bool.{leb-true}
use Rattle.standings.specs.Standing.{standing}
use Rattle.standings.proofs.SpanLemmas.{stays_none}
use Rattle.standings.proofs.left.Standing.look_again.Goals as goal

pub returns-then-is_none-clause-places : goal.returns-then-is_none-clause-places
returns-then-is_none-clause-places c = λ before stays was.
    let span = c.args.span in
    was ∙ sym (ap (standing c.args.text.now) (stays_none span before c.args.self.now.rows.items (leb-true span.to span.from (sym c.is_none.ensures ∙ c.if-is_none.true)) stays))
