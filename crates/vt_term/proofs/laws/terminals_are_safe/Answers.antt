use Rattle.vt_term.proofs.laws.terminals_are_safe.Goals as goal

pub returns : goal.returns
returns c =
    let safe = c.screen-screen.ensures.proper.safe in
    record {
      line = (safe.sound.line_low, safe.sound.line_high);
      column = (safe.sound.column_low, safe.sound.column_high);
      blank = λ line column past. (safe.sound.row line).blank_right column past;
      glyphs = λ line column. (safe.sound.row line).glyphs column;
      inside = safe.inside;
    }
