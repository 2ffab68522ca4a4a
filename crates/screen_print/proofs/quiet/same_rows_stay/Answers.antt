use Rattle.std.proofs.Common.{subst}
use Rattle.vt_screen.specs.Picture.{Sound}
use Rattle.screen_print.specs.Stills.{still_of}
use Rattle.screen_print.proofs.ShortLemmas.{lines_within, short_same_stay}
use Rattle.screen_print.proofs.quiet.same_rows_stay.Goals as goal

pub rows_above_stand_alone-requires-clause-lines : goal.rows_above_stand_alone-requires-clause-lines
rows_above_stand_alone-requires-clause-lines c =
    lines_within c.args.before.now.rows c.args.after.now.console.picture.rows c.args.lines.now c.requires.changed

pub returns-then-text-le-SHORT : goal.returns-then-text-le-SHORT
returns-then-text-le-SHORT c = λ told.
    let after = still_of c.args.after.now.console in
    let sound = subst Sound c.screen.ensures.value c.screens_are_sound.ensures in
    short_same_stay c.args.text.now c.args.before.now after c.args.lines.now c.sound.ensures.whole sound.rows c.requires.wide
    (λ line. (sound.row line).cells) c.if-text-le-SHORT.true c.requires.changed (c.rows_above_stand_alone.ensures told)
