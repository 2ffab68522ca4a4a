use Rattle.std.proofs.Common.{◌∙◌, ap, sym, arith, subst, slice_index_or, ◌-◌}
use Rattle.vt_screen.specs.Cells.{row_at}
use Rattle.vt_screen.specs.Picture.{SoundRow}
use Rattle.screen_print.specs.Stills.{Still}
use Rattle.screen_print.proofs.RowLemmas.{row_read}
use Rattle.screen_print.proofs.still.Still.row.Goals as goal

pub returns-clause-value : goal.returns-clause-value
returns-clause-value c =
    sym (row_read c.self.inside.rows c.args.line c.index-self-line.result c.requires.low (omega (arith, c.self.invariant.whole)))
    ∙ ap (λ (s : Still). row_at s.rows c.args.line) c.self.view_is

pub returns-clause-sound : goal.returns-clause-sound
returns-clause-sound c =
    let is = row_read c.self.inside.rows c.args.line c.index-self-line.result c.requires.low (omega (arith, c.self.invariant.whole)) in
    subst (λ (s : Still). SoundRow s.wide (slice_index_or c.self.inside.rows (c.args.line - 1) c.index-self-line.result)) c.self.view_is
    (subst (SoundRow c.self.inside.wide) is (c.self.invariant.row c.args.line))
