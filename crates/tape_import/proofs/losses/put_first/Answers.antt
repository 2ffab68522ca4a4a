use Rattle.std.proofs.Common.{◌∙◌}
use Rattle.tape_import.proofs.losses.put_first.Goals as goal

pub returns : goal.returns
returns g c = rw (c.in-Some.is, ← (c.as_bytes.ensures.value ∙ c.format.ensures.text)) c.give_all.ensures
