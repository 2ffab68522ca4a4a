use Rattle.tape_mend.proofs.LineLemmas.{read_said, said_read}
use Rattle.tape_mend.proofs.laws.a_stream_line_is_read.Goals as goal

pub returns : goal.returns
returns c = record { read = said_read; alone = read_said }
