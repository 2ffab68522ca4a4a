use Rattle.xterm_page.proofs.ReadRecordings.{reads_back}
use Rattle.xterm_page.proofs.laws.page_reads_back.Goals as goal

pub returns : goal.returns
returns c = reads_back c.numbers_read_back.ensures c.seconds_read_back.ensures
    (record { reset = c.stays_safe.ensures.reset; played = c.stays_safe.ensures.played; size = c.size_stays.ensures })
    c.colours_are_bytes.ensures
