use Rattle.std.proofs.Common.{◌≡◌, sym, subst}
use Rattle.std.specs.Prelude.{OnOk}
use Rattle.plays.specs.Sink.{after_sending, HasRoom}
use Rattle.xterm_term.specs.Console.{console_of}
use Rattle.xterm_term.specs.Term.{Outcome}
use Rattle.xterm_term.specs.Reading.{ComesTo}
use Rattle.xterm_term.proofs.ByteKinds.{first}
use Rattle.xterm_term.proofs.reading.read_byte.Goals as goal

pub returns-clause-comes : goal.returns-clause-comes
returns-clause-comes c sequence stands =
    subst (λ (o : Outcome). OnOk c.read.result (ComesTo o (console_of c.read.new.console) c.read.new.parser c.read.new.decoder))
    (first (console_of c.args.console.now) sequence c.args.decoder.now c.args.byte (c.is_pending.ensures.none c.if-is_pending.false))
    (c.read.ensures.comes sequence stands)

pub returns-clause-sent : goal.returns-clause-sent
returns-clause-sent c sequence stands =
    subst (λ (o : Outcome). OnOk c.read.result (c.read.new.sink ≡ after_sending c.args.sink.now o.reply))
    (first (console_of c.args.console.now) sequence c.args.decoder.now c.args.byte (c.is_pending.ensures.none c.if-is_pending.false))
    (c.read.ensures.sent sequence stands)

pub returns-clause-room : goal.returns-clause-room
returns-clause-room c sequence stands room =
    c.read.ensures.room sequence stands
    (subst (λ (o : Outcome). HasRoom c.args.sink.now o.reply)
    (sym (first (console_of c.args.console.now) sequence c.args.decoder.now c.args.byte (c.is_pending.ensures.none c.if-is_pending.false))) room)
