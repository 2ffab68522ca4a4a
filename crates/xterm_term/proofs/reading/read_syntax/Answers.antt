use Rattle.std.proofs.Common.{Bool, refl, sym, ap, ap₂, subst, ◌∙◌}
use Rattle.std.specs.Prelude.{Option}
use Rattle.std.proofs.lemmas.Bool.{false≢true}
use Rattle.vt_parser.specs.declared.commands.Mode.TheVariants.{Ansi}
use Rattle.vt_parser.specs.declared.commands.Command.{Command}
use Rattle.vt_parser.specs.Step.{pending_after}
use Rattle.plays.specs.Sink.{after_sending, HasRoom}
use Rattle.xterm_term.specs.Rows.{effect_of}
use Rattle.xterm_term.specs.Console.{Console, IsSafe, console_of}
use Rattle.xterm_term.specs.Replies.{reply_of}
use Rattle.xterm_term.specs.Effect.{effect, reply}
use Rattle.xterm_term.specs.Term.{forgotten_if}
use Rattle.xterm_term.specs.SameSize.{SameSize}
use Rattle.xterm_term.proofs.Parts.{stands_after, ends_told}
use Rattle.xterm_term.proofs.Sizes.{both}
use Rattle.xterm_term.proofs.Stays.{safe_if_forgotten, safe_command, size_command, size_forgotten}
use Rattle.xterm_term.proofs.reading.read_syntax.Goals as goal

pub returns-clause-comes : goal.returns-clause-comes
returns-clause-comes c sequence stands =
    let s : Console = console_of c.args.console.now in
    let command = c.step-command.ensures.command Ansi sequence stands in
    let state = stands_after c.args.byte (pending_after Ansi sequence c.args.byte) _ (c.step-command.ensures.state Ansi sequence stands) in
    let ended = ends_told sequence c.args.byte _ _ _ (c.acts-acts.ensures sequence stands) (c.is_ground-was_ground.ensures sequence stands)
    (c.has_ended.ensures (pending_after Ansi sequence c.args.byte) state) in
    let done = c.in_ok-obey_if.ensures.done ∙ ap (λ (o : Option Command). effect_of effect o s) command in
    record {
      console = c.forget_if.ensures.done ∙ ap₂ (λ (e : Bool) (t : Console). forgotten_if e t) ended done;
      state = state;
      character = refl;
    }

pub returns-clause-sent : goal.returns-clause-sent
returns-clause-sent c sequence stands =
    let command = c.step-command.ensures.command Ansi sequence stands in
    c.in_ok-obey_if.ensures.sent ∙ ap (λ (o : Option Command). after_sending c.args.sink.now (reply_of reply o (console_of c.args.console.now))) command

pub returns-clause-sound : goal.returns-clause-sound
returns-clause-sound c sequence stands = record {
  safe = subst IsSafe (sym c.forget_if.ensures.done) (safe_if_forgotten c.has_ended.result _
      (subst IsSafe (sym c.in_ok-obey_if.ensures.done) (safe_command c.laws_below.ensures c.step-command.result _ c.step-command.ensures.proper c.requires)));
  sequence = (
    pending_after Ansi sequence c.args.byte,
    stands_after c.args.byte (pending_after Ansi sequence c.args.byte) _ (c.step-command.ensures.state Ansi sequence stands),
  );
}

pub returns-clause-size : goal.returns-clause-size
returns-clause-size c sequence stands =
    let s : Console = console_of c.args.console.now in
    subst (SameSize s) (sym c.forget_if.ensures.done)
    (both s (console_of c.obey_if.new.self) _ (subst (SameSize s) (sym c.in_ok-obey_if.ensures.done) (size_command c.step-command.result s))
    (size_forgotten c.has_ended.result (console_of c.obey_if.new.self)))

pub returns-in_err-obey_if-clause-sound : goal.returns-in_err-obey_if-clause-sound
returns-in_err-obey_if-clause-sound c sequence stands = record {
  safe = subst IsSafe (sym c.in_err-obey_if.ensures.err) c.requires;
  sequence = (
    pending_after Ansi sequence c.args.byte,
    stands_after c.args.byte (pending_after Ansi sequence c.args.byte) _ (c.step-command.ensures.state Ansi sequence stands),
  );
}

pub returns-in_err-obey_if-clause-size : goal.returns-in_err-obey_if-clause-size
returns-in_err-obey_if-clause-size c sequence stands =
    subst (SameSize (console_of c.args.console.now)) (sym c.in_err-obey_if.ensures.err) (record { columns = refl; lines = refl })

pub returns-in_err-obey_if-clause-room : goal.returns-in_err-obey_if-clause-room
returns-in_err-obey_if-clause-room c sequence stands room =
    let command = c.step-command.ensures.command Ansi sequence stands in
    absurd (false≢true (c.in_err-obey_if.ensures.room
    (subst (λ (o : Option Command). HasRoom c.args.sink.now (reply_of reply o (console_of c.args.console.now))) (sym command) room)))
