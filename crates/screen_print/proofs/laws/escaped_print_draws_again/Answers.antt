use Rattle.std.proofs.Common.{sym, subst}
use Rattle.vt_screen.specs.Picture.{Sound}
use Rattle.vt_term.specs.Console.{Console}
use Rattle.screen_print.proofs.Redrawn.{LawsBelow, draws_again}
use Rattle.screen_print.proofs.laws.escaped_print_draws_again.Goals as goal

pub returns : goal.returns
returns c = λ x shows.
    let laws : LawsBelow = record {
      nothing = c.parts_bring.ensures.none;
      parts = c.parts_bring.ensures.joined;
      characters = c.characters_bring.ensures;
      controls = c.controls_bring.ensures;
      designations = c.sequences_bring.ensures.designation;
      sequences = c.sequences_bring.ensures.control;
      privates = c.sequences_bring.ensures.private;
      margin_low = c.right_margins.ensures.low;
      margin_high = c.right_margins.ensures.high;
      wide = c.pictures_are_drawn_by_line.ensures.wide;
      none_drawn = c.pictures_are_drawn_by_line.ensures.start;
      line_drawn = c.pictures_are_drawn_by_line.ensures.line;
      all_drawn = c.pictures_are_drawn_by_line.ensures.all;
      to_place = c.pictures_are_drawn_by_line.ensures.cursor;
      single_begun = c.lines_are_drawn_by_cell.ensures.single;
      size_begun = c.lines_are_drawn_by_cell.ensures.size;
      cell_drawn = c.lines_are_drawn_by_cell.ensures.cell;
    } in
    draws_again laws x (subst (λ (s : Console). Sound s.picture) (sym shows.console) c.screen-screen.ensures.proper.safe.sound)
