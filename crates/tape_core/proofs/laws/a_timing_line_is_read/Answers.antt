use Rattle.tape_core.proofs.ReadBackLemmas.{timing_line_read}
use Rattle.tape_core.proofs.laws.a_timing_line_is_read.Goals as goal

pub returns : goal.returns
returns c = timing_line_read
