use Rattle.screen_page.proofs.ReadBack.{reads_back}
use Rattle.screen_page.proofs.laws.page_reads_back.Goals as goal

pub returns : goal.returns
returns c = reads_back c.numbers_read_back.ensures c.seconds_read_back.ensures c.stays_safe.ensures.reset c.stays_safe.ensures.played c.right_margins.ensures.high
