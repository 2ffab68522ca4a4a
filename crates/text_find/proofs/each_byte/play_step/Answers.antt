use Rattle.std.proofs.Common.{◌++◌, ◌∙◌, ap, subst, sym, take}
use Rattle.text_find.specs.Foretold.{IsForetold}
use Rattle.text_find.specs.Pieces.{AreQuiet}
use Rattle.text_find.proofs.QuietLemmas.{foretold_quiet}
use Rattle.text_find.proofs.each_byte.play_step.Goals as goal

pub returns-clause-quiet : goal.returns-clause-quiet
returns-clause-quiet g c = λ profile before h still.
    let text = c.args.text.now in
    let bytes = c.args.bytes.now in
    let screen = g.F.Finder.screens profile in
    let told = c.in-Some.ensures.foretold profile before h still.after.rows still.after.places in
    subst (AreQuiet text screen before bytes) (sym c.taken-taken.ensures) (foretold_quiet text screen before bytes c.in-Some.foretold c.in-Some.ensures.within.some told.keeps)

pub returns-clause-between : goal.returns-clause-between
returns-clause-between g c = λ profile before h still.
    let bytes = c.args.bytes.now in
    let screen = g.F.Finder.screens profile in
    let told = subst (IsForetold c.args.text.now screen before bytes c.in-Some.foretold) (sym c.as_slice.ensures.value)
    (c.in-Some.ensures.foretold profile before h still.after.rows still.after.places) in
    c.in_ok-foresee_side.ensures.between (screen before) (screen before) (screen (before ++ take c.taken-taken.result bytes)) told.room
    (ap (λ n. screen (before ++ take n bytes)) c.taken-taken.ensures ∙ told.rows) still
