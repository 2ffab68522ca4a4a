use Rattle.std.proofs.Common.{refl, sym, ap, subst, ◌∙◌}
use Rattle.sheet.specs.Grid.{AreMarked}
use Rattle.sheet.proofs.Came.{marked_itself}
use Rattle.xterm_term.specs.Term.{Term, play, reset_term}
use Rattle.xterm_term.specs.Console.{Console}
use Rattle.xterm_term.proofs.playing.TerminalPlays.laws.Goals as goal

pub returns-clause-fits : goal.returns-clause-fits
returns-clause-fits c = λ size terminal bytes shows.
    let same = c.size_stays.ensures (reset_term size.columns size.lines) bytes in (
      ap (λ (s : Console). s.picture.columns) (sym shows.console) ∙ same.columns,
      ap (λ (s : Console). s.picture.lines) (sym shows.console) ∙ same.lines,
    )

pub returns-clause-nothing : goal.returns-clause-nothing
unfolding play
returns-clause-nothing c = λ size. refl

pub returns-clause-parts : goal.returns-clause-parts
returns-clause-parts c = λ size before more.
    ap (λ (x : Term). x.reports) (c.plays_in_parts.ensures (reset_term size.columns size.lines) before more)
    ∙ c.sent_is_appended.ensures (play (reset_term size.columns size.lines) before) more

pub returns-clause-told : goal.returns-clause-told
returns-clause-told c = λ size terminal bytes shows.
    subst (λ rows. AreMarked rows terminal.origins terminal.console.picture.rows) (sym (ap (λ (s : Console). s.picture.rows) shows.console))
    (marked_itself terminal.console.picture.rows terminal.origins)
