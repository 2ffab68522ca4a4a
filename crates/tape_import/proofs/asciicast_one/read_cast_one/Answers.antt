use Rattle.std.proofs.Common.{◌≡◌, suc, ◌+◌, ◌-◌, length, ap, arith, ◌∙◌}
use Rattle.tape_import.specs.AsciicastOne.{one_inside, those_inside}
use Rattle.tape_import.specs.ShownOne.{goes, shown}
use Rattle.tape_import.proofs.asciicast_one.read_cast_one.Goals as goal

pub loop-preserved : goal.loop-preserved
loop-preserved c =
    let text = c.args.text.now in
    let read = shown c.loop.read in
    let most = length text - (c.loop.counter + 1) in
    let some : length text - c.loop.counter ≡ suc most = omega arith in
    let next : goes (those_inside (length text - c.loop.counter)) read c.loop.step ≡ one_inside c.in-Next.inside (those_inside most) read c.in-Next.at.now =
    ap (λ n. goes (those_inside n) read c.loop.step) some ∙ ap (goes (those_inside (suc most)) read) c.in-Next.is in
    record {
      few = omega (arith, c.in_ok-step.ensures.count, c.loop.invariant.few);
      same = c.loop.invariant.same ∙ next ∙ c.in_ok-step.ensures.step (those_inside most);
    }
