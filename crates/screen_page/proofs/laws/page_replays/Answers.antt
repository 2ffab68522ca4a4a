use Rattle.screen_page.proofs.Replays.{page_replays}
use Rattle.screen_page.proofs.laws.page_replays.Goals as goal

pub returns : goal.returns
returns c = page_replays c.same_rows_are_equal.ensures c.stays_safe.ensures.reset c.stays_safe.ensures.played
