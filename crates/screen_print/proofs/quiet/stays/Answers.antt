use Rattle.std.proofs.Common.{subst}
use Rattle.vt_screen.specs.Picture.{Sound}
use Rattle.screen_print.specs.Stills.{still_of}
use Rattle.screen_print.proofs.QuietLemmas.{nothing_moves, row_places}
use Rattle.screen_print.proofs.quiet.stays.Goals as goal

pub returns : goal.returns
returns c = λ quiet index due.
    let sound = subst Sound c.screen-screen.ensures.value c.screens_are_sound.ensures in
    nothing_moves c.args.text.now index due c.args.before.now (still_of c.args.after.now.console) c.sound.ensures.whole sound.rows
    (c.lines_stay.ensures quiet)

pub returns-then-is_wide : goal.returns-then-is_wide
returns-then-is_wide c = λ quiet index due.
    let before = c.args.before.now in
    let after = still_of c.args.after.now.console in
    let sound = subst Sound c.screen-screen.ensures.value c.screens_are_sound.ensures in
    nothing_moves c.args.text.now index due before after c.sound.ensures.whole sound.rows
    (λ line low high. row_places c.args.text.now before after line (c.all_lines_stay.ensures quiet line low high))
