use Rattle.tape_seek.proofs.MarkLemmas.{feeds_from_head, feeds_from_stored}
use Rattle.tape_seek.proofs.laws.seeks_feed_little.Goals as goal

pub returns-clause-from_stored : goal.returns-clause-from_stored
returns-clause-from_stored c = feeds_from_stored

pub returns-clause-from_head : goal.returns-clause-from_head
returns-clause-from_head c = feeds_from_head
