use Rattle.tape_jobs.proofs.NowhereLemmas.{nothing_is_nowhere}
use Rattle.tape_jobs.proofs.laws.nothing_found_is_nowhere.Goals as goal

pub returns : goal.returns
returns g c = λ readers writers job outcome ends. nothing_is_nowhere c.nowhere_means_nowhere.ensures readers writers job outcome ends
