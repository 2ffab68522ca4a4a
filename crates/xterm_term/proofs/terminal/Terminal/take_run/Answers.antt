use Rattle.xterm_term.specs.Seen.{Seen, seen_of}
use Rattle.xterm_term.proofs.Ran.{run_shown, run_silent, run_terminal, run_size}
use Rattle.xterm_term.proofs.terminal.Terminal.take_run.Goals as goal

pub invariant_of-self : goal.invariant_of-self
invariant_of-self c =
    let before : Seen = seen_of c.self.inside.console c.self.inside.parser c.self.inside.decoder in
    run_terminal c.laws_below.ensures before c.args.run.now _ c.self.invariant c.put_bytes.ensures.done

pub returns-clause-shows : goal.returns-clause-shows
returns-clause-shows c x shows =
    let before : Seen = seen_of c.self.inside.console c.self.inside.parser c.self.inside.decoder in
    run_shown c.laws_below.ensures before _ x c.args.run.now _ c.self.view_is shows c.requires.graphic c.requires.title c.requires.state c.requires.character c.put_bytes.ensures.done

pub returns-clause-silent : goal.returns-clause-silent
returns-clause-silent c x shows =
    run_silent c.laws_below.ensures c.args.self.now x c.args.run.now shows c.requires.graphic c.requires.title c.requires.state c.requires.character

pub returns-clause-size : goal.returns-clause-size
returns-clause-size c =
    let before : Seen = seen_of c.self.inside.console c.self.inside.parser c.self.inside.decoder in
    run_size before _ c.args.run.now _ c.self.view_is c.put_bytes.ensures.done
