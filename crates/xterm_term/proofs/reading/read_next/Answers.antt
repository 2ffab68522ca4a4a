use Rattle.std.proofs.Common.{◌≡◌, refl, sym, ap, subst, ◌∙◌}
use Rattle.std.specs.Prelude.{OnOk}
use Rattle.plays.specs.Sink.{after_sending, HasRoom}
use Rattle.xterm_term.specs.Console.{Console, console_of}
use Rattle.xterm_term.specs.Term.{Outcome}
use Rattle.xterm_term.specs.SameSize.{SameSize}
use Rattle.xterm_term.specs.Reading.{ComesTo}
use Rattle.xterm_term.proofs.ByteKinds.{next}
use Rattle.plays.proofs.Sinks.{stays_as_sent}
use Rattle.xterm_term.proofs.Sizes.{both, put_keeps_size}
use Rattle.xterm_term.proofs.Told.{came_character, came_more, broken}
use Rattle.xterm_term.proofs.reading.read_next.Goals as goal

pub returns-in-Character-clause-comes : goal.returns-in-Character-clause-comes
returns-in-Character-clause-comes c sequence stands =
    came_character (console_of c.args.console.now) sequence c.args.decoder.now c.args.byte _ _ _ _ c.requires.pending
    (sym c.in-Character.is ∙ c.take.ensures.value) stands c.put.ensures.done c.take.ensures.left

pub returns-in-Character-clause-sent : goal.returns-in-Character-clause-sent
returns-in-Character-clause-sent c sequence stands =
    stays_as_sent c.args.sink.now _
    (ap (λ (o : Outcome). o.reply) (sym (next (console_of c.args.console.now) sequence c.args.decoder.now c.args.byte _ c.requires.pending (sym c.in-Character.is ∙ c.take.ensures.value))))

pub returns-in-Character-clause-size : goal.returns-in-Character-clause-size
returns-in-Character-clause-size c sequence stands =
    subst (SameSize (console_of c.args.console.now)) (sym c.put.ensures.done) (put_keeps_size _ (console_of c.args.console.now))

pub returns-in-More-clause-comes : goal.returns-in-More-clause-comes
returns-in-More-clause-comes c sequence stands =
    came_more (console_of c.args.console.now) sequence c.args.decoder.now c.args.byte _ _ _ c.requires.pending
    (sym c.in-More.is ∙ c.take.ensures.value) stands refl c.take.ensures.left

pub returns-in-More-clause-sent : goal.returns-in-More-clause-sent
returns-in-More-clause-sent c sequence stands =
    stays_as_sent c.args.sink.now _
    (ap (λ (o : Outcome). o.reply) (sym (next (console_of c.args.console.now) sequence c.args.decoder.now c.args.byte _ c.requires.pending (sym c.in-More.is ∙ c.take.ensures.value))))

pub returns-in-Broken-clause-comes : goal.returns-in-Broken-clause-comes
returns-in-Broken-clause-comes c sequence stands =
    subst (λ (o : Outcome). OnOk c.read.result (ComesTo o (console_of c.read.new.console) c.read.new.parser c.read.new.decoder))
    (broken (console_of c.args.console.now) _ sequence c.args.decoder.now c.args.byte c.requires.pending (sym c.in-Broken.is ∙ c.take.ensures.value) c.put-in-Broken.ensures.done)
    (c.read.ensures.comes sequence stands)

pub returns-in-Broken-clause-sent : goal.returns-in-Broken-clause-sent
returns-in-Broken-clause-sent c sequence stands =
    subst (λ (o : Outcome). OnOk c.read.result (c.read.new.sink ≡ after_sending c.args.sink.now o.reply))
    (broken (console_of c.args.console.now) _ sequence c.args.decoder.now c.args.byte c.requires.pending (sym c.in-Broken.is ∙ c.take.ensures.value) c.put-in-Broken.ensures.done)
    (c.read.ensures.sent sequence stands)

pub returns-in-Broken-clause-size : goal.returns-in-Broken-clause-size
returns-in-Broken-clause-size c sequence stands =
    let s : Console = console_of c.args.console.now in
    both s (console_of c.put-in-Broken.new.self) _ (subst (SameSize s) (sym c.put-in-Broken.ensures.done) (put_keeps_size _ s)) (c.read.ensures.size sequence stands)

pub returns-in-Broken-clause-room : goal.returns-in-Broken-clause-room
returns-in-Broken-clause-room c sequence stands room =
    c.read.ensures.room sequence stands
    (subst (λ (o : Outcome). HasRoom c.args.sink.now o.reply)
    (sym (broken (console_of c.args.console.now) _ sequence c.args.decoder.now c.args.byte c.requires.pending (sym c.in-Broken.is ∙ c.take.ensures.value) c.put-in-Broken.ensures.done)) room)
