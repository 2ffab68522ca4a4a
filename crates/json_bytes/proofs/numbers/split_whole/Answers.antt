use Rattle.std.proofs.Common.{subst, sym}
use Rattle.std.specs.Char.{is_ascii_digit}
use Rattle.std.specs.List.{AllPass}
use Rattle.json_bytes.proofs.numbers.split_whole.Goals as goal

pub returns-clause-all : goal.returns-clause-all
returns-clause-all c = subst (AllPass is_ascii_digit) (sym c.split_at.ensures.front) c.count_whole.ensures.all
