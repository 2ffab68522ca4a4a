use Rattle.std.proofs.Common.{sym}
use Rattle.standings.proofs.alone.Alone.turned.Goals as goal

pub returns : goal.returns
returns c = λ one other places others pairs left. sym (pairs left)
