use Rattle.std.proofs.Common.{ap, refl, subst, sym, ◌∙◌}
use Rattle.std.specs.Prelude.{Some}
use Rattle.vt_parser.specs.declared.states.ParserState.{ParserState}
use Rattle.xterm_term.specs.Seen.{Seen, Shows, seen_of}
use Rattle.xterm_term.proofs.Ahead.{nothing_unshown, sequence_unshown, spelled_unshown}
use Rattle.xterm_term.proofs.terminal.Terminal.unshown.Goals as goal

pub returns-in_default-clause-shows : goal.returns-in_default-clause-shows
returns-in_default-clause-shows c = λ x shows count none. nothing_unshown x c.args.bytes.now count none

pub returns-then-is_idle-clause-shows : goal.returns-then-is_idle-clause-shows
returns-then-is_idle-clause-shows c = λ x shows count le.
    spelled_unshown c.laws_below.ensures c.args.self.now x c.args.bytes.now _ c.in-Some.len count
    (record { title = c.if-is_idle.ensures.title refl; character = c.if-is_idle.ensures.character refl })
    (c.if-is_idle.ensures.state refl) shows c.in-Some.ensures.spelled c.in-Some.ensures.some c.in-Some.ensures.within le

pub returns-then-self-clause-shows : goal.returns-then-self-clause-shows
returns-then-self-clause-shows c = λ x shows count none. nothing_unshown x c.args.bytes.now count none

pub returns-clause-shows : goal.returns-clause-shows
returns-clause-shows c = λ x shows count le.
    let before : Seen = seen_of c.self.inside.console c.self.inside.parser c.self.inside.decoder in
    sequence_unshown before x c.args.bytes.now c.waiting_run.result count
    (record { title = c.if-self.false; character = c.is_pending.ensures.none c.if-is_pending.false })
    (subst (λ (s : Seen). Shows s x) (sym c.self.view_is) shows)
    (λ pending view. c.waiting_run.ensures.waits pending (view ∙ ap (λ (s : ParserState). Some s) (sym c.state.ensures.value)))
    c.waiting_run.ensures.within le
