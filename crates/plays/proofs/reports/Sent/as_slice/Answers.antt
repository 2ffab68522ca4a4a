use Rattle.std.proofs.Common.{◌∙◌, ap, subst, sym}
use Rattle.std.proofs.lemmas.List.{take-replicate}
use Rattle.plays.specs.Sent.{AreSent, sent_bytes}
use Rattle.plays.proofs.reports.Sent.as_slice.Goals as goal

-- The constant has at least as many zeros.
pub returns-in-Zeros : goal.returns-in-Zeros
returns-in-Zeros c =
    take-replicate c.in-Zeros.len 20 0 (subst AreSent c.in-Zeros.is c.requires) ∙ ap sent_bytes (sym c.in-Zeros.is)
