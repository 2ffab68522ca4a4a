use Rattle.std.proofs.Common.{◌≡◌, ◌∙◌, arith, length, subst, sym, take}
use Rattle.vt_term.specs.Console.{Console}
use Rattle.screen_print.proofs.EachByteLemmas.{shows_start}
use Rattle.screen_print.proofs.WaitingLemmas.{waiting_keeps, waiting_same, waiting_silent}
use Rattle.screen_print.proofs.fresh.play_waiting.Goals as goal

pub returns-then-len-eq0-clause-shows : goal.returns-then-len-eq0-clause-shows
returns-then-len-eq0-clause-shows c = λ x shows. shows_start c.args.terminal.now x shows

pub run-requires : goal.run-requires
run-requires c = λ x shows.
    waiting_silent (take c.waiting_len-len.result c.args.bytes.now) x (c.waiting_len-len.ensures.waiting (omega (arith, c.if-len-eq0.false)) x shows)

pub returns-clause-keeps : goal.returns-clause-keeps
returns-clause-keeps c = λ x shows count lt.
    waiting_keeps c.args.text.now c.args.bytes.now c.waiting_len-len.result count x
    (subst (λ (s : Console). length s.picture.rows ≡ 24) (sym shows.console) c.screen-screen.ensures.proper.safe.sound.rows)
    (c.waiting_len-len.ensures.waiting (omega (arith, c.if-len-eq0.false)) x shows) lt

pub returns-clause-same : goal.returns-clause-same
returns-clause-same c =
    let x = c.screen-screen.ensures.proper.term.0 in
    let shows = c.screen-screen.ensures.proper.term.1 in
    sym (c.run.ensures.shows x shows).console
    ∙ waiting_same c.waiting_len-len.result c.args.bytes.now x (c.waiting_len-len.ensures.waiting (omega (arith, c.if-len-eq0.false)) x shows) ∙ shows.console
