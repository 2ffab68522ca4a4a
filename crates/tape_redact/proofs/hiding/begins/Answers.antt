use Rattle.std.proofs.Common.{◌∙◌, sym}
use Rattle.tape_redact.proofs.AheadLemmas.{no_front}
use Rattle.tape_redact.proofs.hiding.begins.Goals as goal

pub returns-else-stands : goal.returns-else-stands
returns-else-stands c =
    c.if-stands.false ∙ sym (no_front c.args.text.now c.args.bytes.now 64 c.args.at (sym c.requires ∙ c.if-stands.false))
