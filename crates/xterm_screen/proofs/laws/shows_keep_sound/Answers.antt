use Rattle.xterm_screen.proofs.Soundness.{sound_indexed, sound_lines_deleted, sound_lines_inserted, sound_lowered_lines, sound_mark_joined, sound_raised, sound_reverse_indexed, sound_run_shown, sound_shown}
use Rattle.xterm_screen.proofs.laws.shows_keep_sound.Goals as goal

pub returns-clause-show : goal.returns-clause-show
returns-clause-show c = λ character wide rendition autowrap inserting p sound. sound_shown wide rendition autowrap inserting character p sound

pub returns-clause-run : goal.returns-clause-run
returns-clause-run c = λ characters rendition autowrap inserting p sound. sound_run_shown rendition autowrap inserting characters p sound

pub returns-clause-mark : goal.returns-clause-mark
returns-clause-mark c = λ mark p sound. sound_mark_joined p sound mark

pub returns-clause-index : goal.returns-clause-index
returns-clause-index c = sound_indexed

pub returns-clause-reverse_index : goal.returns-clause-reverse_index
returns-clause-reverse_index c = sound_reverse_indexed

pub returns-clause-scroll_up : goal.returns-clause-scroll_up
returns-clause-scroll_up c = λ n paper p sound. sound_raised p sound n p.top p.bottom paper

pub returns-clause-scroll_down : goal.returns-clause-scroll_down
returns-clause-scroll_down c = λ n paper p sound. sound_lowered_lines p sound n p.top p.bottom paper

pub returns-clause-insert_lines : goal.returns-clause-insert_lines
returns-clause-insert_lines c = sound_lines_inserted

pub returns-clause-delete_lines : goal.returns-clause-delete_lines
returns-clause-delete_lines c = sound_lines_deleted
