use Rattle.std.proofs.Common.{◌∙◌}
use Rattle.tape_mend.proofs.ToldLemmas.{message_pieces}
use Rattle.tape_mend.proofs.losses.put_lines.Goals as goal

pub returns : goal.returns
returns g c =
    rw (c.in-Some.is, message_pieces c.in-Some.left.line c.in-Some.left.fault, ← (c.as_bytes.ensures.value ∙ c.format.ensures.text), ← c.text.ensures, ← (c.as_bytes-2.ensures.value ∙ c.format-2.ensures.text))
    c.give_all.ensures
