use Rattle.std.proofs.Common.{[], refl}
use Rattle.vt_parser.specs.declared.commands.Mode.TheVariants.{Ansi}
use Rattle.vt_parser.proofs.Shapes.{shows_none}
use Rattle.vt_parser.proofs.Parser.new.Goals as goal

pub invariant_of-result : goal.invariant_of-result
invariant_of-result c = ((Ansi, [], shows_none Ansi), refl)
