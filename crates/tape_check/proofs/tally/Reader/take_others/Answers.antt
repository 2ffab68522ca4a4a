use Rattle.std.proofs.Common.{arith, sym, subst}
use Rattle.tape_check.specs.Tallying.{IsAt}
use Rattle.tape_check.proofs.TallyLemmas.{more_tallied}
use Rattle.tape_check.proofs.tally.Reader.take_others.Goals as goal

pub loop-at-init : goal.loop-at-init
loop-at-init c = record {
  some = omega arith;
  within = omega arith;
  stands = λ t at. subst (IsAt c.take_byte.new.self) (sym (more_tallied t c.args.bytes.now 0 c.requires)) (c.in_ok-take_byte.ensures t at);
}

pub loop-at-preserved : goal.loop-at-preserved
loop-at-preserved c = record {
  some = omega arith;
  within = omega arith;
  stands = λ t at. subst (IsAt c.take_byte-in-loop-at.new.self) (sym (more_tallied t c.args.bytes.now c.loop-at.at (omega arith)))
      (c.in_ok-take_byte-2.ensures _ (c.loop-at.invariant.stands t at));
}
