use Rattle.xterm_term.proofs.below.laws_below.Goals as goal

pub returns : goal.returns
returns c = record {
  state_decides = c.state_decides.ensures;
  stays_shown = c.stays_shown.ensures;
  ground_is_empty = c.ground_is_empty.ensures;
  finished_leaves_nothing = c.finished_leaves_nothing.ensures;
  pending_pays = c.pending_pays.ensures;
  graphic_is_shown = c.graphic_is_shown.ensures;
  commands_are_proper = c.commands_are_proper.ensures;
  reset_is_safe = λ columns lines size. record {
    sound = c.reset_is_sound.ensures.sound columns lines size.columns_low size.columns_high size.lines_low size.lines_high;
    inside = λ is. c.reset_is_sound.ensures.inside columns lines size.lines_low;
    main_saved = tt;
    alternate_saved = tt;
  };
  puts_keep_safe = c.commands_keep_safe.ensures.puts;
  commands_keep_safe = c.commands_keep_safe.ensures.commands;
}
