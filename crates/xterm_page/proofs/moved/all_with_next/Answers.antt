use Rattle.std.proofs.Common.{refl}
use Rattle.std.specs.Fmt.{digits}
use Rattle.xterm_page.proofs.moved.all_with_next.Goals as goal

pub returns : goal.returns
unfolding digits
returns c = refl
