use Rattle.chunk_walk.proofs.SeekLemmas.{ends_between, ends_sound}
use Rattle.chunk_walk.proofs.laws.walks_end_sound.Goals as goal

pub returns-clause-alone : goal.returns-clause-alone
returns-clause-alone g c = λ a b text stops. ends_sound g.W.Write.contents a b text stops

pub returns-clause-between : goal.returns-clause-between
returns-clause-between g c = λ a b d text x y z cut stops gave. ends_between g.W.Write.contents a b d text x y z cut stops gave
