use Rattle.std.proofs.Common.{arith, refl, replicate}
use Rattle.screen_rows.proofs.KeptLemmas.{from_nothing, sound_blanks, zeros}
use Rattle.screen_rows.proofs.kept.KeptRows.of.Goals as goal

pub invariant_of-kept : goal.invariant_of-kept
invariant_of-kept c = rw c.blank.ensures (record {
  slots = refl;
  named = λ line low high. omega (arith, zeros 24 line);
  row = λ line. sound_blanks 24 line (replicate 24 0);
})

pub catch_up-requires : goal.catch_up-requires
catch_up-requires c = λ line low high. from_nothing _ c.args.screen.now line _ (zeros 24 line)
