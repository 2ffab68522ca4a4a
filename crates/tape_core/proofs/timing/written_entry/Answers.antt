use Rattle.std.proofs.Common.{◌-◌, length, take, drop, arith}
use Rattle.tape_core.proofs.FirstLineLemmas.{begins, entry_first}
use Rattle.tape_core.proofs.timing.written_entry.Goals as goal

pub returns-in-10-clause-line : goal.returns-in-10-clause-line
returns-in-10-clause-line c =
    let behind = c.in_ok-delay.behind.now in
    let end = c.in_ok-count.end.now in
    entry_first c.args.text.now behind (take (length behind - 1) (drop 1 behind)) end (take (length end - 1) (drop 1 end)) _
    c.in_ok-delay.ensures (begins behind 32 (omega arith) (omega arith)) c.in_ok-count.ensures.number (begins end 10 (omega arith) (omega arith))
    (record { delay = omega arith; count = omega arith })
