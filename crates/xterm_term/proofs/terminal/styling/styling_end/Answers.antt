use Rattle.std.proofs.Common.{◌<◌, ◌≡◌, true, get_or, length, arith}
use Rattle.std.proofs.lemmas.Bool.Decides.{nat_tests}
use Rattle.vt_parser.specs.Syntax.{is_within}
use Rattle.xterm_term.proofs.LettersAt.{silent_on, silent_opens, silent_whole}
use Rattle.xterm_term.proofs.terminal.styling.styling_end.Goals as goal

pub loop-at-init : goal.loop-at-init
loop-at-init c = silent_opens c.args.bytes.now c.requires

pub returns-in-109-clause-styled : goal.returns-in-109-clause-styled
returns-in-109-clause-styled c = λ some.
    let within : c.loop-at.at < length c.args.bytes.now = omega (arith, c.loop-at.auto.at, c.loop-at-test.true) in
    (silent_whole c.args.bytes.now c.loop-at.at within c.loop-at.invariant c.in-109.is).styled

pub returns-in-109-clause-letters : goal.returns-in-109-clause-letters
returns-in-109-clause-letters c =
    let within : c.loop-at.at < length c.args.bytes.now = omega (arith, c.loop-at.auto.at, c.loop-at-test.true) in
    (silent_whole c.args.bytes.now c.loop-at.at within c.loop-at.invariant c.in-109.is).letters

pub loop-at-preserved : goal.loop-at-preserved
loop-at-preserved c =
    let within : c.loop-at.at < length c.args.bytes.now = omega (arith, c.loop-at.auto.at, c.loop-at-test.true) in
    let parameter : is_within 48 59 (get_or c.args.bytes.now c.loop-at.at 0) ≡ true = grind (arith, nat_tests, c.in-48-to-59) in
    silent_on c.args.bytes.now c.loop-at.at within c.loop-at.invariant parameter
