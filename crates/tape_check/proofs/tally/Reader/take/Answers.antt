use Rattle.std.proofs.Common.{◌+◌, ◌∙◌, refl, drop, ap, take}
use Rattle.std.specs.Prelude.{fold}
use Rattle.std.proofs.lemmas.List.{take_rest, drop-drop}
use Rattle.tape_check.specs.Tally.{tallied}
use Rattle.tape_check.proofs.TallyLemmas.{fed_on}
use Rattle.tape_check.proofs.tally.Reader.take.Goals as goal

pub loop-rest-init : goal.loop-rest-init
loop-rest-init c = record { at = 0; left = refl; stands = λ t at. at }

pub loop-rest-preserved : goal.loop-rest-preserved
loop-rest-preserved c =
    let fed = c.loop-rest.invariant in
    let bytes = c.args.bytes.now in
    let rest = c.loop-rest.rest.now in
    let n = c.in_ok-taken.taken in
    record {
      at = fed.at + n;
      left = take_rest rest n ∙ ap (drop n) fed.left ∙ drop-drop n fed.at bytes;
      stands = λ t at. fed_on c.take_some.new.self t bytes rest fed.at n fed.left
          (c.in_ok-taken.ensures.taken (fold tallied t (take fed.at bytes)) (fed.stands t at));
    }
