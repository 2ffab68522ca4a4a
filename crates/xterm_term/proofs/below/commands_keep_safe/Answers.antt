use Rattle.xterm_term.proofs.Safe.{ScreenLaws, safe_effect, safe_put, safe_mode_set, safe_sheet}
use Rattle.xterm_term.proofs.below.commands_keep_safe.Goals as goal

pub returns : goal.returns
returns c =
    let sound = c.moves_keep_sound.ensures in
    let shows = c.shows_keep_sound.ensures in
    let changes = c.changes_keep_sound.ensures in
    let goes = c.origin_goes_inside.ensures in
    let stays = c.cursors_stay_inside.ensures in
    let writes = c.writes_stay_inside.ensures in
    let laws : ScreenLaws = record {
      reset = λ columns lines size. c.reset_is_sound.ensures.sound columns lines size.columns_low size.columns_high size.lines_low size.lines_high;
      show = λ character wide rendition autowrap inserting. record { sound = shows.show character wide rendition autowrap inserting; inside = writes.show character wide rendition autowrap inserting };
      add_mark = λ mark. record { sound = shows.mark mark; inside = writes.mark mark };
      up = λ n. record { sound = sound.up n; inside = stays.up n };
      down = λ n. record { sound = sound.down n; inside = stays.down n };
      lower = λ n. record { sound = λ origin. sound.lower n origin; inside = stays.lower n };
      right = λ n. record { sound = sound.right n; inside = stays.right n };
      left = λ n. record { sound = sound.left n; inside = stays.left n };
      to_left = record { sound = sound.to_left; inside = stays.to_left };
      to_column = λ column low. record { sound = sound.column column low; inside = stays.column column };
      clear_wrap = record { sound = sound.clear_wrap; inside = stays.clear_wrap };
      index = λ paper. record { sound = shows.index paper; inside = writes.index paper };
      reverse_index = λ paper. record { sound = shows.reverse_index paper; inside = writes.reverse_index paper };
      scroll_up = λ n paper. record { sound = shows.scroll_up n paper; inside = writes.scroll_up n paper };
      scroll_down = λ n paper. record { sound = shows.scroll_down n paper; inside = writes.scroll_down n paper };
      insert_lines = λ n paper. record { sound = shows.insert_lines n paper; inside = writes.insert_lines n paper };
      delete_lines = λ n paper. record { sound = shows.delete_lines n paper; inside = writes.delete_lines n paper };
      erase_display = λ part paper. record { sound = changes.erase_display part paper; inside = writes.erase_display part paper };
      erase_line = λ part paper. record { sound = changes.erase_line part paper; inside = writes.erase_line part paper };
      erase_cells = λ n paper. record { sound = changes.erase_cells n paper; inside = writes.erase_cells n paper };
      insert_cells = λ n paper. record { sound = changes.insert_cells n paper; inside = writes.insert_cells n paper };
      delete_cells = λ n paper. record { sound = changes.delete_cells n paper; inside = writes.delete_cells n paper };
      align = changes.align;
      alternate = λ paper. record { sound = changes.alternate paper; inside = writes.alternate paper };
      main = record { sound = changes.main; inside = writes.main };
      tab = record { sound = changes.tab; inside = stays.tab };
      tab_on = λ n. record { sound = changes.tab_on n; inside = stays.tab_on n };
      tab_back = λ n. record { sound = changes.tab_back n; inside = stays.tab_back n };
      set_tab = λ stops. record { sound = changes.set_tab stops; inside = stays.set_tab stops };
      clear_tabs = record { sound = changes.clear_tabs; inside = stays.clear_tabs };
      to_line = λ line low. record { sound = λ origin. sound.line line origin low; inside = goes.line line };
      place = λ line column low column_low. record { sound = λ origin. sound.place line column origin low column_low; inside = goes.place line column };
      home = record { sound = sound.home; inside = goes.home };
      back = λ line column wrap origin autowrap p low high column_low is. sound.put_back line column wrap origin autowrap p low high column_low is;
      back_inside = goes.put_back;
      margins = λ top bottom. record { sound = changes.margins top bottom; inside = goes.margins top bottom };
    } in
    record { puts = safe_put laws; modes = safe_mode_set laws; sheets = safe_sheet laws; commands = safe_effect laws }
