use Rattle.std.proofs.Common.{ap, sym, take_at, ◌∙◌}
use Rattle.sheet.specs.Grid.{Grid}
use Rattle.xterm_screen.specs.Picture.{first_tabs}
use Rattle.sheet.proofs.Came.{all_told}
use Rattle.xterm_screen.proofs.Screens.{sound_reset_is}
use Rattle.xterm_screen.proofs.screen.Screen.new.Goals as goal

pub invariant_of-result : goal.invariant_of-result
invariant_of-result c =
    let shown = c.in_ok-shown.ensures in
    let other = c.in_ok-other.ensures in
    record {
      sound =
          sound_reset_is c.args.columns c.args.lines c.in_ok-shown.shown.rows c.in_ok-other.other.rows _
          c.requires.columns_low c.requires.columns_high c.requires.lines_low c.requires.lines_high
          (ap (λ (g : Grid). g.rows) shown) (ap (λ (g : Grid). g.rows) other)
          (take_at c.put_first_tabs.new.tabs _ c.in_ok-tabs.tabs.len (c.put_first_tabs.auto.tabs ∙ c.as_mut_slice.ensures.len) ∙ c.put_first_tabs.ensures
          ∙ ap first_tabs (c.as_mut_slice.ensures.len ∙ c.in_ok-tabs.ensures.len));
      shown_columns = ap (λ (g : Grid). g.columns) shown;
      shown_lines = ap (λ (g : Grid). g.lines) shown;
      other_columns = ap (λ (g : Grid). g.columns) other;
      other_lines = ap (λ (g : Grid). g.lines) other;
    }

pub returns-clause-told : goal.returns-clause-told
returns-clause-told c = λ before.
    all_told c.args.lines c.in_ok-shown.shown.rows before _ (ap (λ (g : Grid). g.origins) c.in_ok-shown.ensures)
