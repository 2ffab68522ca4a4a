use Rattle.std.proofs.Common.{◌++◌, List, ℕ, ap, ap₂, subst, sym, take, ◌∙◌}
use Rattle.std.proofs.lemmas.List.{take_rest}
use Rattle.xterm_term.specs.Term.{play, sent}
use Rattle.xterm_term.specs.Seen.{Shows}
use Rattle.xterm_term.proofs.Feeding.{play_on, sent_on}
use Rattle.xterm_term.proofs.Runs.{run_graphic}
use Rattle.xterm_term.proofs.terminal.Terminal.take_text.Goals as goal

pub take_run-requires-clause-graphic : goal.take_run-requires-clause-graphic
take_run-requires-clause-graphic c = run_graphic _ c.printable_run-run.result c.printable_run-run.ensures.value

pub returns-clause-shows : goal.returns-clause-shows
returns-clause-shows c x shows =
    let bytes = c.args.bytes.now in
    let taken = c.take_characters-taken.result in
    let run = c.printable_run-run.result in
    subst (Shows c.take_run.new.self) (sym (play_on x bytes taken run))
    (subst (λ (l : List ℕ). Shows c.take_run.new.self (play (play x (take taken bytes)) (take run l))) (take_rest bytes taken)
    (c.take_run.ensures.shows (play x (take taken bytes)) (c.take_characters-taken.ensures.shows x shows)))

pub returns-clause-silent : goal.returns-clause-silent
returns-clause-silent c x shows =
    let bytes = c.args.bytes.now in
    let taken = c.take_characters-taken.result in
    let run = c.printable_run-run.result in
    let first = play x (take taken bytes) in
    sent_on x bytes taken run
    ∙ ap₂ (λ (l m : List ℕ). l ++ m) (c.take_characters-taken.ensures.silent x shows)
    (ap (λ (l : List ℕ). sent first (take run l)) (sym (take_rest bytes taken)) ∙ c.take_run.ensures.silent first (c.take_characters-taken.ensures.shows x shows))
