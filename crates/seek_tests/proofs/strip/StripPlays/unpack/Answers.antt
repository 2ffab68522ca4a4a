use Rattle.std.proofs.Common.{length, sym, ap, ◌∙◌}
use Rattle.seek_tests.specs.Strip.{Seen}
use Rattle.seek_tests.proofs.Parts.{blank_size}
use Rattle.seek_tests.proofs.strip.StripPlays.unpack.Goals as goal

pub returns-clause-shows : goal.returns-clause-shows
returns-clause-shows c = λ setup before fits keeps.
    c.copy_from.ensures (fits ∙ sym (ap (λ (s : Seen). length s.cells) keeps ∙ blank_size setup.size before)) ∙ keeps
