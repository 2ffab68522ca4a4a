use Rattle.xterm_screen.proofs.Regions.{inside_run_shown, inside_shown}
use Rattle.xterm_screen.proofs.laws.writes_stay_inside.Goals as goal

pub returns-clause-show : goal.returns-clause-show
returns-clause-show c = λ character wide rendition autowrap inserting p sound inside. inside_shown wide rendition autowrap inserting character p sound inside

pub returns-clause-run : goal.returns-clause-run
returns-clause-run c = λ characters rendition autowrap inserting p sound inside. inside_run_shown rendition autowrap inserting characters p sound inside
