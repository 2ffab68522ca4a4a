use Rattle.std.proofs.Common.{◌≡◌, ℕ, List, [], refl, sym, ap, subst, ◌∙◌}
use Rattle.std.specs.Prelude.{OnOk}
use Rattle.plays.specs.Sink.{after_sending, HasRoom}
use Rattle.xterm_term.specs.Console.{Console, console_of}
use Rattle.xterm_term.specs.Term.{Outcome, read}
use Rattle.xterm_term.specs.SameSize.{SameSize}
use Rattle.xterm_term.specs.Reading.{ComesTo}
use Rattle.xterm_term.proofs.ByteKinds.{titled, upper, other, come}
use Rattle.plays.proofs.Sinks.{stays_as_sent}
use Rattle.xterm_term.proofs.Told.{upper_comes, upper_silent, upper_size}
use Rattle.xterm_term.proofs.reading.read.Goals as goal

pub returns-then-console-clause-comes : goal.returns-then-console-clause-comes
returns-then-console-clause-comes c sequence stands =
    come _ _ _ _ _ _ (c.read_title.ensures.comes sequence stands) (titled (console_of c.args.console.now) sequence c.args.byte c.if-console.true) c.requires.none

pub returns-then-console-clause-sent : goal.returns-then-console-clause-sent
returns-then-console-clause-sent c sequence stands =
    stays_as_sent c.args.sink.now _
    (ap (λ (o : Outcome). o.reply) (sym (titled (console_of c.args.console.now) sequence c.args.byte c.if-console.true)) ∙ c.read_title.ensures.silent sequence)

pub returns-then-is_upper-clause-comes : goal.returns-then-is_upper-clause-comes
returns-then-is_upper-clause-comes c sequence stands =
    let is = sym (c.is_upper.ensures sequence stands) ∙ c.if-is_upper.true in
    come _ _ _ _ _ _ (upper_comes (console_of c.args.console.now) sequence c.args.byte _ _ _ stands is c.read_upper.ensures.console c.read_upper.ensures.character)
    (upper (console_of c.args.console.now) sequence c.args.byte c.if-console.false is) refl

pub returns-then-is_upper-clause-sent : goal.returns-then-is_upper-clause-sent
returns-then-is_upper-clause-sent c sequence stands =
    let is = sym (c.is_upper.ensures sequence stands) ∙ c.if-is_upper.true in
    stays_as_sent c.args.sink.now _
    (ap (λ (o : Outcome). o.reply) (sym (upper (console_of c.args.console.now) sequence c.args.byte c.if-console.false is))
    ∙ upper_silent (console_of c.args.console.now) c.args.byte)

pub returns-then-is_upper-clause-size : goal.returns-then-is_upper-clause-size
returns-then-is_upper-clause-size c sequence stands =
    subst (SameSize (console_of c.args.console.now)) (sym c.read_upper.ensures.console) (upper_size (console_of c.args.console.now) c.args.byte)

pub returns-clause-comes : goal.returns-clause-comes
returns-clause-comes c sequence stands =
    let s : Console = console_of c.args.console.now in
    let is = sym (c.is_upper.ensures sequence stands) ∙ c.if-is_upper.false in
    subst (λ (l : List ℕ). OnOk c.read_syntax.result (ComesTo (read s sequence c.args.byte) (console_of c.read_syntax.new.console) c.read_syntax.new.parser l)) (sym c.requires.none)
    (subst (λ (o : Outcome). OnOk c.read_syntax.result (ComesTo o (console_of c.read_syntax.new.console) c.read_syntax.new.parser []))
    (other s sequence c.args.byte c.if-console.false is) (c.read_syntax.ensures.comes sequence stands))

pub returns-clause-sent : goal.returns-clause-sent
returns-clause-sent c sequence stands =
    let is = sym (c.is_upper.ensures sequence stands) ∙ c.if-is_upper.false in
    subst (λ (o : Outcome). OnOk c.read_syntax.result (c.read_syntax.new.sink ≡ after_sending c.args.sink.now o.reply))
    (other (console_of c.args.console.now) sequence c.args.byte c.if-console.false is) (c.read_syntax.ensures.sent sequence stands)

pub returns-clause-room : goal.returns-clause-room
returns-clause-room c sequence stands room =
    let is = sym (c.is_upper.ensures sequence stands) ∙ c.if-is_upper.false in
    c.read_syntax.ensures.room sequence stands
    (subst (λ (o : Outcome). HasRoom c.args.sink.now o.reply) (sym (other (console_of c.args.console.now) sequence c.args.byte c.if-console.false is)) room)
