use Rattle.std.proofs.Common.{sym, ◌∙◌}
use Rattle.xterm_transcript.proofs.PieceLemmas.{comes_last, comes_more}
use Rattle.xterm_transcript.proofs.transcriber.Transcriber.next_of_character.Goals as goal

pub returns-in-Character-clause-comes : goal.returns-in-Character-clause-comes
returns-in-Character-clause-comes c x is =
    comes_last c.args.self.now x c.args.byte c.in-Character.character c.put_piece.result is c.requires.some (sym c.in-Character.is ∙ c.reading.ensures)
    c.put_piece.ensures.leaving c.put_piece.ensures.after

pub returns-in-More-clause-comes : goal.returns-in-More-clause-comes
returns-in-More-clause-comes c x is =
    comes_more c.args.self.now x c.args.byte c.kept.result is c.requires.some (sym c.in-More.is ∙ c.reading.ensures) c.kept.ensures.leaving c.kept.ensures.after
