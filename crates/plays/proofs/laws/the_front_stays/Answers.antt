use Rattle.plays.proofs.Sinks.{keeps_itself, keeps_sent, keeps_trans, keeps_length}
use Rattle.plays.proofs.laws.the_front_stays.Goals as goal

pub returns-clause-nothing : goal.returns-clause-nothing
returns-clause-nothing c = keeps_itself

pub returns-clause-sent : goal.returns-clause-sent
returns-clause-sent c = keeps_sent

pub returns-clause-twice : goal.returns-clause-twice
returns-clause-twice c = keeps_trans

pub returns-clause-length : goal.returns-clause-length
returns-clause-length c = keeps_length
