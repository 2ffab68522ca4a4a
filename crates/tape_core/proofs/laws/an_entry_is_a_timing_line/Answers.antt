use Rattle.tape_core.proofs.LineLemmas.{timing_line}
use Rattle.tape_core.proofs.laws.an_entry_is_a_timing_line.Goals as goal

pub returns : goal.returns
returns c = λ text entry h. timing_line text entry h
