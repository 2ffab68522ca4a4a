use Rattle.std.proofs.Common.{false}
use Rattle.xterm_screen.proofs.Soundness.{sound_aligned, sound_alternate_shown, sound_display_erased, sound_main_shown, sound_margins_set, sound_row, sound_tab_made, sound_tabbed, sound_tabbed_back, sound_tabbed_on, sound_tabs_cleared}
use Rattle.xterm_screen.proofs.laws.changes_keep_sound.Goals as goal

pub returns-clause-erase_display : goal.returns-clause-erase_display
returns-clause-erase_display c = λ part paper p sound. sound_display_erased p sound part paper

pub returns-clause-erase_line : goal.returns-clause-erase_line
returns-clause-erase_line c = λ part paper p sound. sound_row p sound _ false

pub returns-clause-erase_cells : goal.returns-clause-erase_cells
returns-clause-erase_cells c = λ n paper p sound. sound_row p sound _ false

pub returns-clause-insert_cells : goal.returns-clause-insert_cells
returns-clause-insert_cells c = λ n paper p sound. sound_row p sound _ false

pub returns-clause-delete_cells : goal.returns-clause-delete_cells
returns-clause-delete_cells c = λ n paper p sound. sound_row p sound _ false

pub returns-clause-align : goal.returns-clause-align
returns-clause-align c = sound_aligned

pub returns-clause-margins : goal.returns-clause-margins
returns-clause-margins c = λ top bottom origin p sound. sound_margins_set p sound top bottom origin

pub returns-clause-alternate : goal.returns-clause-alternate
returns-clause-alternate c = λ paper p sound. sound_alternate_shown p sound paper

pub returns-clause-main : goal.returns-clause-main
returns-clause-main c = sound_main_shown

pub returns-clause-tab : goal.returns-clause-tab
returns-clause-tab c = sound_tabbed

pub returns-clause-tab_on : goal.returns-clause-tab_on
returns-clause-tab_on c = λ n p sound. sound_tabbed_on p sound n

pub returns-clause-tab_back : goal.returns-clause-tab_back
returns-clause-tab_back c = λ n p sound. sound_tabbed_back p sound n

pub returns-clause-set_tab : goal.returns-clause-set_tab
returns-clause-set_tab c = λ stops p sound. sound_tab_made p sound stops

pub returns-clause-clear_tabs : goal.returns-clause-clear_tabs
returns-clause-clear_tabs c = sound_tabs_cleared
