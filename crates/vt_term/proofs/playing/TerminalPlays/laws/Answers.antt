use Rattle.std.proofs.Common.{refl, ap, ◌∙◌}
use Rattle.vt_term.specs.Term.{Term, play, reset_term_as}
use Rattle.vt_term.proofs.Steps.{plays_in_parts, sent_is_appended}
use Rattle.vt_term.proofs.playing.TerminalPlays.laws.Goals as goal

pub returns-clause-nothing : goal.returns-clause-nothing
unfolding play
returns-clause-nothing c = λ profile. refl

pub returns-clause-parts : goal.returns-clause-parts
returns-clause-parts c = λ profile before more.
    ap (λ (x : Term). x.reports) (plays_in_parts (reset_term_as profile) before more)
    ∙ sent_is_appended (play (reset_term_as profile) before) more
