use Rattle.std.proofs.Common.{ap, refl, ◌∙◌, length}
use Rattle.seek_tests.specs.Strip.{Seen, answers, blank}
use Rattle.seek_tests.proofs.Parts.{answers_in_parts, blank_size}
use Rattle.seek_tests.proofs.strip.StripPlays.laws.Goals as goal

pub returns-clause-fits : goal.returns-clause-fits
returns-clause-fits c = λ setup strip bytes shows. ap (λ (s : Seen). length s.cells) shows ∙ blank_size setup.size bytes

pub returns-clause-nothing : goal.returns-clause-nothing
unfolding answers
returns-clause-nothing c = λ setup. refl

pub returns-clause-parts : goal.returns-clause-parts
returns-clause-parts c = λ setup before more. answers_in_parts (blank setup.size) before more
