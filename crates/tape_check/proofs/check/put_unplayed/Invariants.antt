use Rattle.tape_check.specs.Counting.{entries_of, plain_entries}
use Rattle.tape_check.proofs.NoteLemmas.{Written}
use Rattle.tape_check.proofs.check.put_unplayed.Given as goal

-- the lines of the entries so far were written
abbrev pub invariant-loop-name : goal.invariant-loop-name
invariant-loop-name g l = Written g.W.Write.contents l.fn.writer l.writer (entries_of l.counts) (plain_entries l.name-iterator)
