use Rattle.std.proofs.Common.{ap, arith, length, subst, take}
use Rattle.std.proofs.lemmas.List.{length-drop, take_rest}
use Rattle.vt_term.specs.Seen.{Shows}
use Rattle.vt_term.specs.Term.{play}
use Rattle.screen_print.proofs.EachByteLemmas.{shows_start}
use Rattle.screen_print.proofs.KeptLemmas.{shows_on}
use Rattle.screen_print.proofs.silent.play_all.Goals as goal

pub loop-at-init : goal.loop-at-init
loop-at-init c = record { within = omega arith; shows = λ x h. shows_start c.args.terminal.now x h; scratch = c.requires }

pub loop-at-preserved : goal.loop-at-preserved
loop-at-preserved c =
    let bytes = c.args.bytes.now in
    let at = c.loop-at.at in
    let n = c.play_some-at.result in
    let tail = take_rest bytes at in
    record {
      within = omega (arith, c.play_some-at.ensures.within, c.loop-at.invariant.within, ap length tail, length-drop at bytes);
      shows = λ x h. shows_on c.plays_in_parts.ensures c.loop-at.terminal c.play_some-at.new.terminal x bytes at n (c.loop-at.invariant.shows x h)
          (subst (λ b. Shows c.loop-at.terminal (play x (take at bytes)) → Shows c.play_some-at.new.terminal (play (play x (take at bytes)) (take n b))) tail (c.play_some-at.ensures.shows (play x (take at bytes))));
      scratch = c.play_some-at.ensures.scratch;
    }
