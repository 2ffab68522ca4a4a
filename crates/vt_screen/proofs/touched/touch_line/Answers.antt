use Rattle.vt_screen.proofs.Told.{touched_one}
use Rattle.vt_screen.proofs.touched.touch_line.Goals as goal

pub returns : goal.returns
returns c = touched_one c.args.line c.args.touched.now c.told-touched c.requires.low c.requires.high
