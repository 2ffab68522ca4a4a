use Rattle.tape_jobs.proofs.PlayerLemmas.{nowhere_for}
use Rattle.tape_jobs.proofs.laws.nowhere_means_nowhere.Goals as goal

pub returns : goal.returns
returns c = nowhere_for c.nowhere_means_nowhere.ensures c.nowhere_means_nowhere-2.ensures
