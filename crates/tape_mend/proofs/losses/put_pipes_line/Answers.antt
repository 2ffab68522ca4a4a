use Rattle.std.proofs.Common.{◌∙◌}
use Rattle.tape_mend.proofs.losses.put_pipes_line.Goals as goal

pub returns : goal.returns
returns g c =
    rw (← (c.as_bytes.ensures.value ∙ c.format.ensures.text), ← (c.as_bytes-2.ensures.value ∙ c.format-2.ensures.text)) c.give_all.ensures
