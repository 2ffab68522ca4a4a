use Rattle.std.proofs.Common.{ap, ap₂, ◌∙◌, Bool, List, ℕ, length, take_at}
use Rattle.sheet.specs.Grid.{blank_rows}
use Rattle.sheet.specs.declared.rendition.Colour.TheVariants.{Default}
use Rattle.xterm_screen.specs.Picture.{first_tabs}
use Rattle.xterm_screen.proofs.Screens.{sound_reset_is}
use Rattle.xterm_screen.proofs.screen.Screen.reset.Goals as goal

pub invariant_of-self : goal.invariant_of-self
invariant_of-self c =
    let is = c.self.invariant in
    record {
      sound =
          sound_reset_is c.self.inside.columns c.self.inside.lines c.clear.new.self.rows c.clear-2.new.self.rows _
          is.sound.columns_low is.sound.columns_high is.sound.lines_low is.sound.lines_high
          (c.clear.ensures.rows ∙ ap (blank_rows c.self.inside.shown.columns c.self.inside.shown.lines) c.of-paper.ensures ∙ ap₂ (λ (columns lines : ℕ). blank_rows columns lines Default) is.shown_columns is.shown_lines)
          (c.clear-2.ensures.rows ∙ ap (blank_rows c.self.inside.other.columns c.self.inside.other.lines) c.of-paper.ensures ∙ ap₂ (λ (columns lines : ℕ). blank_rows columns lines Default) is.other_columns is.other_lines)
          (take_at c.put_first_tabs.new.tabs _ c.self.inside.tabs.len (c.put_first_tabs.auto.tabs ∙ c.as_mut_slice.ensures.len) ∙ c.put_first_tabs.ensures
          ∙ ap (λ (tabs : List Bool). first_tabs (length tabs)) c.as_mut_slice.ensures.value ∙ ap first_tabs is.sound.tabs);
      shown_columns = c.clear.ensures.columns ∙ is.shown_columns;
      shown_lines = c.clear.ensures.lines ∙ is.shown_lines;
      other_columns = c.clear-2.ensures.columns ∙ is.other_columns;
      other_lines = c.clear-2.ensures.lines ∙ is.other_lines;
    }
