use Rattle.std.proofs.Common.{ap, subst, sym, ◌∙◌}
use Rattle.sheet.specs.Cells.{Cell}
use Rattle.xterm_rows.specs.Ink.{colour_number}
use Rattle.xterm_rows.specs.Letters.{IsLetter}
use Rattle.xterm_rows.specs.Runs.{kind_of}
use Rattle.xterm_rows.specs.declared.runs.Kind.{Kind}
use Rattle.xterm_rows.proofs.LetterLemmas.{blank_letter}
use Rattle.xterm_rows.proofs.runs.kind_numbers.Goals as goal

pub is_letter_like-requires : goal.is_letter_like-requires
is_letter_like-requires c = subst (λ (cell : Cell). IsLetter cell.rendition cell) (sym c.empty.ensures) blank_letter

pub returns-clause-ink : goal.returns-clause-ink
unfolding kind_of
returns-clause-ink c = c.colour_number.ensures ∙ ap (λ (k : Kind). colour_number k.rendition.ink) c.of-kind.ensures

pub returns-clause-paper : goal.returns-clause-paper
unfolding kind_of
returns-clause-paper c = c.colour_number-2.ensures ∙ ap (λ (k : Kind). colour_number k.rendition.paper) c.of-kind.ensures
