use Rattle.std.proofs.Common.{ap, take, ◌∙◌}
use Rattle.xterm_term.specs.Console.{console_of}
use Rattle.xterm_term.specs.Puts.{put}
use Rattle.xterm_term.proofs.SpelledLemmas.{first_puts, puts_one}
use Rattle.xterm_term.proofs.console.Console.put_narrow.Goals as goal

pub returns-then-eq-clause-done : goal.returns-then-eq-clause-done
returns-then-eq-clause-done c =
    first_puts c.args.rest.now c.in-Some.len c.put_run.result c.in-Some.second (put c.args.first (console_of c.args.self.now))
    (console_of c.put_run.new.self) c.in-Some.ensures.spelled c.put_run.ensures.done

pub returns-clause-done : goal.returns-clause-done
returns-clause-done c =
    puts_one (take c.in-Some.len c.args.rest.now) c.in-Some.second (put c.args.first (console_of c.args.self.now))
    (console_of c.put_known-3.new.self) c.in-Some.ensures.spelled
    (c.put_known-3.ensures.done ∙ ap (put c.in-Some.second) c.put_known-2.ensures.done)
