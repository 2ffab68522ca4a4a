use Rattle.std.proofs.Common.{◌≡◌, [], arith, rules, subst, sym}
use Rattle.screen_print.specs.ByLine.{AreLost}
use Rattle.screen_print.proofs.ByLineLemmas.{lost_none}
use Rattle.screen_print.proofs.lost.pass_kept.Goals as goal

pub loop-line-init : goal.loop-line-init
loop-line-init c =
    let text = c.args.sought.now.text.now in
    let one = c.args.pair.now.one.now in
    let other = c.args.pair.now.other.now in
    record {
      low = omega arith;
      within = omega arith;
      ready = search rules;
      none = c.requires.none;
      lost = subst (λ k. AreLost text one k other c.args.lost.now.next []) (sym c.requires.ready)
          (subst (λ k. AreLost text one 1 other k []) (sym c.requires.next) (lost_none text one other));
    }
