use Rattle.std.proofs.Common.{◌≡◌, arith}
use Rattle.std.proofs.lemmas.List.{length-take}
use Rattle.xterm_print.proofs.PieceLemmas.{letter_foretold}
use Rattle.xterm_print.proofs.pieces.typed.Goals as goal

pub returns : goal.returns
returns c = λ x shows rows.
    let run = c.run_over-taken in
    let at = c.written_at in
    let one : run.result ≡ 1 = omega (arith, c.if-taken-eq0.false, run.ensures.within, length-take 1 c.args.bytes.now) in
    letter_foretold x c.args.text.now c.args.bytes.now run.new.letters.items run.result at.result (at.ensures.above x shows) (at.ensures.before x shows rows)
    (at.ensures.sound x shows) one (run.ensures.written (omega (arith, c.if-taken-eq0.false)) x shows)
