use Rattle.plays.proofs.Sinks.{sends_nothing, after_sending-append}
use Rattle.plays.proofs.laws.sending_adds_up.Goals as goal

pub returns-clause-nothing : goal.returns-clause-nothing
returns-clause-nothing c = sends_nothing

pub returns-clause-joined : goal.returns-clause-joined
returns-clause-joined c = after_sending-append
