-- Private: what the fields of what was drawn stand for.
use Rattle.screen_cast.specs.declared.visitor.DrawnRows.TheInside.{Inside as Fields}
use Rattle.screen_print.specs.Stills.{Still}

abbrev pub drawn_in : Fields → Still
drawn_in d = d.shown.still
