use Rattle.std.proofs.Common.{take, sym, ◌∙◌}
use Rattle.xterm_term.specs.Ahead.{Letters}
use Rattle.xterm_term.proofs.LettersAt.{IsLetter, whole_letter}
use Rattle.xterm_term.proofs.terminal.styling.letter_at.Goals as goal

letter : (c : goal.Then-is_narrow) → IsLetter c.args.set Letters (take c.in_ok-character.taken c.args.bytes.now) c.in_ok-character.character
letter c =
    whole_letter c.args.set (take c.in_ok-character.taken c.args.bytes.now) c.in_ok-character.character c.in_ok-character.ensures.spelled
    (sym c.is_narrow.ensures ∙ c.if-is_narrow.true)

pub returns-then-is_narrow-clause-styled : goal.returns-then-is_narrow-clause-styled
returns-then-is_narrow-clause-styled c = (letter c).styled

pub returns-then-is_narrow-clause-letters : goal.returns-then-is_narrow-clause-letters
returns-then-is_narrow-clause-letters c = (letter c).letters
