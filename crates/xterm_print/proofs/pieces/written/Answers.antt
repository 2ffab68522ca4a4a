use Rattle.std.proofs.Common.{arith, subst, sym}
use Rattle.xterm_print.specs.Pieces.{StaysOn, WritesOver}
use Rattle.xterm_print.proofs.PieceLemmas.{run_foretold}
use Rattle.xterm_print.proofs.pieces.written.Goals as goal

pub returns-clause-written : goal.returns-clause-written
returns-clause-written c = λ x shows rows places.
    let run = c.run_over-taken in
    let text = c.args.text.now in
    let bytes = c.args.bytes.now in
    let letters = run.new.letters.items in
    let at = c.written_at in
    run_foretold x text bytes letters at.result (at.ensures.above x shows) (at.ensures.before x shows rows) (at.ensures.sound x shows)
    (subst (WritesOver x bytes letters) (sym at.ensures.taken) (run.ensures.written (omega (arith, c.if-taken-eq0.false)) x shows))
    (subst (StaysOn text x bytes) (sym at.ensures.taken) (run.ensures.stays x shows c.requires.some (c.requires.ends x shows rows places)))
