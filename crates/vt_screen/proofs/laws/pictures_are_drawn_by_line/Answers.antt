use Rattle.vt_screen.proofs.Drawing.{no_rows, one_blank_more, line_done, all_rows, placed_there}
use Rattle.std.proofs.Common.{refl}
use Rattle.vt_screen.proofs.laws.pictures_are_drawn_by_line.Goals as goal

pub returns-clause-wide : goal.returns-clause-wide
returns-clause-wide c = refl

pub returns-clause-start : goal.returns-clause-start
returns-clause-start c = no_rows

pub returns-clause-blank : goal.returns-clause-blank
returns-clause-blank c = one_blank_more

pub returns-clause-line : goal.returns-clause-line
returns-clause-line c = line_done

pub returns-clause-all : goal.returns-clause-all
returns-clause-all c = all_rows

pub returns-clause-cursor : goal.returns-clause-cursor
returns-clause-cursor c = placed_there
