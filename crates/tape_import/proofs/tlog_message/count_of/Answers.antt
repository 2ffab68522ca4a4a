use Rattle.std.proofs.Common.{◌∙◌, ap, sym}
use Rattle.std.specs.Option.{option_and_then}
use Rattle.tape_import.specs.TlogMessage.{short_number}
use Rattle.tape_import.proofs.TlogLemmas.{counted_short, counted_long}
use Rattle.tape_import.proofs.tlog_message.count_of.Goals as goal

pub returns-then-len-le18 : goal.returns-then-len-le18
returns-then-len-le18 c =
    let read = c.in_ok-count.ensures in
    counted_short (read.0) c.in_ok-count.count c.in_ok-count.len (read.1) c.if-len-le18.true ∙ sym (ap (option_and_then short_number) (read.2 63))

pub returns-else-len-le18 : goal.returns-else-len-le18
returns-else-len-le18 c =
    let read = c.in_ok-count.ensures in
    counted_long (read.0) c.in_ok-count.count c.in_ok-count.len (read.1) c.if-len-le18.false ∙ sym (ap (option_and_then short_number) (read.2 63))
