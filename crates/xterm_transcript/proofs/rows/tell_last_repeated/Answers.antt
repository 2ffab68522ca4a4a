use Rattle.std.proofs.Common.{◌≡◌, Some, ap, subst, sym, ◌∙◌}
use Rattle.std.specs.Prelude.{Option, ℕ}
use Rattle.transcripts.specs.Told.{Tells}
use Rattle.xterm_term.specs.Console.{Console}
use Rattle.xterm_term.specs.Seen.{Shows}
use Rattle.xterm_term.specs.Term.{Term}
use Rattle.xterm_transcript.specs.Leaving.{last_repeated_rows}
use Rattle.xterm_transcript.specs.Playing.{character_put_times}
use Rattle.xterm_transcript.proofs.RepeatLemmas.{some_off}
use Rattle.xterm_transcript.proofs.rows.tell_last_repeated.Goals as goal

pub returns-clause-tells : goal.returns-clause-tells
returns-clause-tells g c x shows =
    let last : x.console.last ≡ Some c.in-Some.character = ap (λ (s : Console). s.last) shows.console ∙ sym c.last_character.ensures ∙ c.in-Some.is in
    subst (λ (l : Option ℕ). Tells g.W.Write.contents c.args.writer.now c.args.rows.now c.tell_repeated.new.writer c.tell_repeated.new.rows (last_repeated_rows c.args.times l x.console))
    (sym last) (c.in_ok-tell_repeated.ensures.tells x shows)

pub returns-clause-shows : goal.returns-clause-shows
returns-clause-shows g c x shows =
    let last : x.console.last ≡ Some c.in-Some.character = ap (λ (s : Console). s.last) shows.console ∙ sym c.last_character.ensures ∙ c.in-Some.is in
    subst (λ (t : Term). Shows c.forget_last.new.self t) (some_off x c.args.times c.in-Some.character last)
    (c.forget_last.ensures.shows (character_put_times c.args.times c.in-Some.character x) (c.in_ok-tell_repeated.ensures.shows x shows))
