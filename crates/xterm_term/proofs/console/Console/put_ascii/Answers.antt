use Rattle.std.proofs.Common.{arith}
use Rattle.std.proofs.lemmas.Bool.Decides.{nat_tests}
use Rattle.xterm_term.specs.Console.{console_of}
use Rattle.xterm_term.proofs.Runs.{put_at_once, put_nothing, run_is_narrow}
use Rattle.xterm_term.proofs.console.Console.put_ascii.Goals as goal

pub returns-then-is_empty-clause-done : goal.returns-then-is_empty-clause-done
returns-then-is_empty-clause-done c = put_nothing c.args.bytes.now (console_of c.args.self.now) (grind (arith, nat_tests))

pub returns-clause-done : goal.returns-clause-done
returns-clause-done c =
    put_at_once c.args.bytes.now 0 (console_of c.args.self.now) _ (run_is_narrow c.widths_are_small.ensures.ascii c.args.bytes.now c.requires)
    (grind (arith, nat_tests))
    c.show_run.ensures.picture
