use Rattle.std.proofs.Common.{◌≡◌, List, Bool, sym, ap, ap₂, subst, ◌∙◌, refl}
use Rattle.vt_screen.specs.declared.cell.Row.{Row}
use Rattle.vt_screen.specs.Picture.{Sound, reset}
use Rattle.vt_screen.specs.Slots.{rows_of}
use Rattle.vt_screen.proofs.Soundness.{sound_reset}
use Rattle.vt_screen.proofs.Turns.{first_rows}
use Rattle.vt_screen.specs.Table.{table}
use Rattle.vt_screen.proofs.Told.{nothing_told}
use Rattle.vt_screen.proofs.screen.Screen.reset.Goals as goal

is_reset : (c : goal.After-first_tabs) → record reset { rows = rows_of c.new.result; tabs = c.first_tabs.result } ≡ reset
is_reset c = ap₂ (λ (rows : List Row) (tabs : List Bool). record reset { rows = rows; tabs = tabs }) (ap rows_of c.new.ensures ∙ first_rows) c.first_tabs.ensures

pub invariant_of-result : goal.invariant_of-result
invariant_of-result c = subst Sound (sym (is_reset c)) sound_reset

pub returns-clause-picture : goal.returns-clause-picture
returns-clause-picture c = is_reset c

pub returns-clause-touched : goal.returns-clause-touched
unfolding table
returns-clause-touched c = refl

pub returns-clause-told : goal.returns-clause-told
returns-clause-told c before = nothing_told _ before _ (returns-clause-touched c)
