use Rattle.std.proofs.Common.{IfSome, Option, subst}
use Rattle.standings.specs.Less.{PairOff}
use Rattle.standings.specs.declared.alone.Alone.{Alone}
use Rattle.text_find.proofs.lines.turned.Goals as goal

pub returns-in-Some : goal.returns-in-Some
returns-in-Some c = λ one other places others pairs.
    c.turned.ensures one other places others (subst (λ (told : Option Alone). IfSome told (λ alone. PairOff one places other others alone.one.items alone.other.items)) c.in-Some.is pairs)
