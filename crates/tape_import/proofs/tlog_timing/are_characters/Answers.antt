use Rattle.std.proofs.Common.{◌<◌, subst}
use Rattle.std.proofs.lemmas.Bool.{ltb-true}
use Rattle.tape_import.proofs.TlogLemmas.{are_characters}
use Rattle.tape_import.proofs.tlog_timing.are_characters.Goals as goal

pub returns-then-begins_anew : goal.returns-then-begins_anew
returns-then-begins_anew c = λ small.
    are_characters c.args.count c.args.text.now c.split_at.result.0.now c.split_at.result.1.now c.split_at.ensures.front c.split_at.ensures.back c.requires
    (subst (λ n. n < 128) c.greatest.ensures (ltb-true c.greatest.result 128 small)) (c.begins_anew.ensures c.if-begins_anew.true)
