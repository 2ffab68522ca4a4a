use Rattle.screen_print.proofs.NowhereLemmas.{nowhere}
use Rattle.screen_print.proofs.laws.nowhere_means_nowhere.Goals as goal

pub returns : goal.returns
returns c =
    nowhere (record {
      dues = c.due_is_below_the_count.ensures;
      grows = c.first_grows_by_a_chunk.ensures;
      plays = c.plays_in_parts.ensures;
    })
