use Rattle.std.proofs.Common.{sym, ◌∙◌}
use Rattle.xterm_term.specs.Console.{console_of}
use Rattle.xterm_term.proofs.SpelledLemmas.{known_put, none_put}
use Rattle.xterm_term.proofs.console.Console.put_known.Goals as goal

pub returns-in-Some-clause-done : goal.returns-in-Some-clause-done
returns-in-Some-clause-done c =
    c.put_by_width.ensures.done ∙ sym (known_put c.args.character c.in-Some.width (console_of c.args.self.now) (sym c.requires ∙ c.in-Some.is))

pub returns-in-None-clause-done : goal.returns-in-None-clause-done
returns-in-None-clause-done c = sym (none_put c.args.character (console_of c.args.self.now) (sym c.requires ∙ c.in-None.is))
