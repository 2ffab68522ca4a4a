use Rattle.std.proofs.Common.{sym, ◌∙◌}
use Rattle.std.proofs.lemmas.Bool.{not-true}
use Rattle.xterm_rows.proofs.runs.are_parted.Goals as goal

pub returns-then-is_letter-2 : goal.returns-then-is_letter-2
returns-then-is_letter-2 c = λ parted.
    let first = c.is_letter.ensures c.if-is_letter.true in
    let next = c.is_letter-then-is_letter.ensures c.if-is_letter-2.true in
    record {
      first = first;
      next = next;
      apart = c.same_style.ensures.apart (not-true _ parted) (first.kind ∙ sym next.kind);
    }
