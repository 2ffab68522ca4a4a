use Rattle.std.proofs.Common.{arith}
use Rattle.vt_screen.proofs.Rows.{erased_to_the_end, erased_from_the_start, erased_all}
use Rattle.vt_screen.proofs.cell.Row.erase_part.Goals as goal

pub returns-in-0 : goal.returns-in-0
returns-in-0 c = erased_to_the_end c.args.part c.args.column c.args.self.now _ _ c.in-0.is c.blank.ensures c.fill.ensures

pub returns-in-1 : goal.returns-in-1
returns-in-1 c = erased_from_the_start c.args.part c.args.column c.args.self.now _ _ c.in-1.is c.blank-in-1.ensures c.fill-in-1.ensures

pub returns-in_default : goal.returns-in_default
returns-in_default c = erased_all c.args.part c.args.column c.args.self.now _ _ (omega arith) c.blank-in_default.ensures c.fill-in_default.ensures
