use Rattle.xterm_term.proofs.Rowless.{title_goes_alone}
use Rattle.xterm_term.proofs.laws.title_goes_alone.Goals as goal

pub returns : goal.returns
returns c = title_goes_alone
