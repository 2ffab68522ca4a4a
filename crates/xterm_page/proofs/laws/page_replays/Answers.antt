use Rattle.xterm_page.proofs.Replays.{page_replays}
use Rattle.xterm_page.proofs.laws.page_replays.Goals as goal

pub returns : goal.returns
returns c = page_replays c.stays_safe.ensures.reset c.stays_safe.ensures.played c.size_stays.ensures
