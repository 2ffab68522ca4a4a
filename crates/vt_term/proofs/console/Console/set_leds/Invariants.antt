use Rattle.std.proofs.Common.{◌≡◌, take, length}
use Rattle.std.specs.Prelude.{fold}
use Rattle.vt_term.specs.Sequences.{leds_set}
use Rattle.vt_term.proofs.console.Console.set_leds.Given as goal

abbrev pub invariant-loop-param : goal.invariant-loop-param
invariant-loop-param l = record {
  length : length l.leds ≡ 4;
  leds : l.leds ≡ fold leds_set l.initial.leds (take l.param-index l.params);
}
