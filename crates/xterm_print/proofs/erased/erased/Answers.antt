use Rattle.std.proofs.Common.{◌<◌, ◌-◌, arith, length, refl, subst, sym}
use Rattle.std.specs.Prelude.{[]}
use Rattle.standings.specs.Kept.{EndBy}
use Rattle.standings.proofs.KeptLemmas.{ends_here}
use Rattle.xterm_print.specs.Pieces.{WritesOver, left_of_cursor, rows_behind}
use Rattle.xterm_print.proofs.ErasedLemmas.{erased_stays, erased_written}
use Rattle.xterm_print.proofs.PieceLemmas.{run_foretold}
use Rattle.xterm_print.proofs.erased.erased.Goals as goal

pub returns-clause-foretold : goal.returns-clause-foretold
returns-clause-foretold c = λ x shows rows places.
    let text = c.args.text.now in
    let bytes = c.args.bytes.now in
    let still = c.args.still.now in
    let above = x.console.picture.line - 1 in
    let before = length (left_of_cursor x) in
    let count = c.in_ok-count.count in
    let taken = c.erases_right-taken.result in
    let sound = c.cursor_place-above.ensures.sound x shows in
    let erasable = c.in_ok-count.ensures.erasable x shows in
    let begun : 0 < taken = omega (arith, c.if-taken-eq0.false) in
    let erases = c.erases_right-taken.ensures.erases begun x shows in
    let within = c.erases_right-taken.ensures.within in
    let ends = subst (λ r. EndBy (length text) r still.places.items above before) rows (c.ends_left.ensures c.if-not-ends_left.false text x refl shows rows places) in
    run_foretold x text bytes _ _ (c.cursor_place-above.ensures.above x shows) (c.cursor_place-above.ensures.before x shows rows) sound
    (subst (λ l. WritesOver x bytes l taken) (sym c.put_spaces.ensures) (erased_written x count text bytes taken sound erasable begun within erases))
    (erased_stays x count text bytes taken sound erasable begun within erases
    (λ k i low lt fits here. ends_here text (rows_behind x [] 0) still.places.items above before k i ends places low lt fits here))
