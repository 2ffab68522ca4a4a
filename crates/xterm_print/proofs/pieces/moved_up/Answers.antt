use Rattle.std.proofs.Common.{◌∙◌, ap, arith, subst, sym}
use Rattle.std.proofs.lemmas.Bool.Decides.{nat_tests}
use Rattle.std.proofs.lemmas.List.{take_more}
use Rattle.xterm_screen.specs.Picture.{Picture, Sound}
use Rattle.xterm_term.specs.Console.{Console}
use Rattle.xterm_term.specs.Seen.{Shows}
use Rattle.xterm_term.specs.Term.{Term}
use Rattle.standings.specs.Moved.{moved_up}
use Rattle.xterm_print.specs.Pieces.{rows_behind}
use Rattle.xterm_print.proofs.MovedLemmas.{behind_some, moved_behind}
use Rattle.xterm_print.proofs.pieces.moved_up.Goals as goal

sound_of : (c : goal.After-columns) (x : Term) → Shows c.args.terminal.now x → Sound x.console.picture
sound_of c x shows =
    subst Sound (c.screen-screen.ensures.value ∙ ap (λ (s : Console). s.picture) (sym shows.console)) c.cursor-cursor.ensures.sound

pub returns-clause-rows : goal.returns-clause-rows
returns-clause-rows c = λ x shows. behind_some x c.args.bytes.now (sound_of c x shows)

pub returns-clause-moves : goal.returns-clause-moves
returns-clause-moves c = λ x shows.
    let bytes = c.args.bytes.now in
    let columns = ap (λ (s : Console). s.picture.columns) shows.console ∙ ap (λ (p : Picture). p.columns) (sym c.screen-screen.ensures.value) ∙ sym c.columns.ensures.value in
    moved_behind x bytes _ (take_more bytes 0 _ (grind (arith, nat_tests, c.is_empty.ensures, c.if-is_empty.false))) (sound_of c x shows) (c.moves_up.ensures c.if-not-moves_up.false x shows)
    ∙ ap (λ n. moved_up n (rows_behind x bytes 0)) columns
