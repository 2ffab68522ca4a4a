use Rattle.tape_import.proofs.FactsLemmas.{parted_at}
use Rattle.tape_import.proofs.facts.parted.Goals as goal

pub returns-in-len1-up : goal.returns-in-len1-up
returns-in-len1-up c =
    parted_at c.args.byte c.args.text.now c.split_at.result.0.now c.split_at.result.1.now c.position_of.result c.position_of.ensures.first c.split_at.ensures.front c.split_at.ensures.back
    c.in-len1-up.len_at_least
