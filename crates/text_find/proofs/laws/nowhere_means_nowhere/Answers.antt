use Rattle.text_find.proofs.NowhereLemmas.{nowhere}
use Rattle.text_find.proofs.laws.nowhere_means_nowhere.Goals as goal

pub returns : goal.returns
returns g c =
    nowhere g.F.Finder.screens (record {
      dues = c.due_is_below_the_count.ensures;
      grows = c.first_grows_by_a_chunk.ensures;
      blank = c.begins_blank.ensures;
    })
