use Rattle.std.proofs.Common.{◌≡◌, true, [], ◌∷◌, sym, ap, subst, ◌∙◌}
use Rattle.xterm_term.specs.declared.sets.CharacterSet.{CharacterSet}
use Rattle.xterm_term.specs.Ahead.{Letters, is_narrow}
use Rattle.xterm_term.specs.Sets.{character_of}
use Rattle.xterm_term.proofs.LettersAt.{IsLetter, graphic_letter}
use Rattle.xterm_term.proofs.Runs.{ascii_is_narrow}
use Rattle.xterm_term.proofs.terminal.styling.graphic_letter.Goals as goal
use Rattle.xterm_term.proofs.terminal.styling.graphic_letter.Goals.{then-matches, else-matches, in-Ascii, in_default}

-- in ASCII each takes a column, and in other sets that was tested
narrow : (c : goal.Then-is_narrow) → is_narrow (character_of c.args.set c.args.byte) ≡ true
unfolding character_of
narrow c = elim c.if-matches.branch [
  | then-matches w ↦ elim c.match-matches.branch [
    | in-Ascii v ↦ subst (λ (set : CharacterSet). is_narrow (character_of set c.args.byte) ≡ true) (sym v.in-Ascii.is)
        (ascii_is_narrow c.widths_are_small.ensures.ascii c.args.byte c.requires)
    | in_default v ↦ absurd cc
  ]
  | else-matches w ↦ ap is_narrow (sym c.character-character.ensures) ∙ sym w.is_narrow.ensures ∙ sym w.value-is ∙ c.if-is_narrow.true
]

letter : (c : goal.Then-is_narrow) → IsLetter c.args.set Letters (c.args.byte ∷ []) c.character-character.result
letter c =
    subst (IsLetter c.args.set Letters (c.args.byte ∷ [])) (sym c.character-character.ensures)
    (graphic_letter c.args.set c.args.byte c.requires (narrow c))

pub returns-then-is_narrow-clause-styled : goal.returns-then-is_narrow-clause-styled
returns-then-is_narrow-clause-styled c = (letter c).styled

pub returns-then-is_narrow-clause-letters : goal.returns-then-is_narrow-clause-letters
returns-then-is_narrow-clause-letters c = (letter c).letters
