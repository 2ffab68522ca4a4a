use Rattle.std.proofs.Common.{◌≡◌, ◌∙◌, ap, arith, false, sym}
use Rattle.std.proofs.lemmas.Bool.Decides.{nat_tests}
use Rattle.xterm_print.specs.FindRows.{rows_read}
use Rattle.xterm_print.proofs.FindRowLemmas.{rows_untouched}
use Rattle.xterm_print.proofs.find_rows.read_touched.Goals as goal

pub returns-then-not-any_touched-clause-rows : goal.returns-then-not-any_touched-clause-rows
returns-then-not-any_touched-clause-rows c = λ before told long is.
    let now_ = c.args.screen.now.picture.rows in
    let sound = c.cursor-cursor.ensures.sound in
    let none : c.any_touched.result ≡ false = grind (arith, nat_tests) in
    is ∙ ap (rows_read c.args.screen.now.picture.lines)
    (rows_untouched before now_ (long ∙ sym sound.rows) (λ line low high. told.stay line (c.any_touched.ensures none line low (omega (arith, high, sound.rows)))))
