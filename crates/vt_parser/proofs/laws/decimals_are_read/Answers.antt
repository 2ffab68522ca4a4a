use Rattle.vt_parser.proofs.Written.{decimals_are_read, written_sequences_finish, written_privates_finish}
use Rattle.vt_parser.proofs.laws.decimals_are_read.Goals as goal

pub returns : goal.returns
returns c = record { params = decimals_are_read; control = written_sequences_finish; private = written_privates_finish }
