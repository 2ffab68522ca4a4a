use Rattle.std.proofs.Common.{sym, subst}
use Rattle.vt_screen.specs.Picture.{Sound}
use Rattle.vt_screen.specs.View.{picture_of, state_of}
use Rattle.vt_screen.proofs.Answers.{rows_are}
use Rattle.vt_screen.proofs.Soundness.{sound_line_erased}
use Rattle.vt_screen.proofs.Told.{row_told}
use Rattle.vt_screen.proofs.screen.Screen.erase_line.Goals as goal

pub invariant_of-self : goal.invariant_of-self
invariant_of-self c = subst Sound (sym (rows_are _ _ c.erase_part.ensures)) (sound_line_erased (picture_of c.self.inside) c.self.invariant c.args.part)

pub returns-clause-told : goal.returns-clause-told
returns-clause-told c = row_told (state_of c.self.inside) c.args.self.now _ _ c.self.view_is c.self.inside.line _ c.touch_line.ensures c.erase_part.ensures
