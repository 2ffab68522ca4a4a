use Rattle.xterm_term.specs.Console.{console_of}
use Rattle.xterm_term.proofs.Letters.{front_put}
use Rattle.xterm_term.proofs.console.Console.put_part.Goals as goal

pub returns-clause-done : goal.returns-clause-done
returns-clause-done c =
    front_put c.args.letters.now c.show_letters-shown.result c.index-letters-shown.result (console_of c.args.self.now) _ c.requires.narrow
    c.show_letters-shown.ensures.some c.show_letters-shown.ensures.within c.index-letters-shown.is c.show_letters-shown.ensures.picture
