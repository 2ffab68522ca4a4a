use Rattle.std.proofs.Common.{◌<◌, arith, length, subst, take}
use Rattle.std.proofs.lemmas.List.{get_or-take, length-take-le}
use Rattle.sheet.specs.declared.rendition.Colour.TheVariants.{Default}
use Rattle.sheet.specs.Cells.{blank}
use Rattle.xterm_print.specs.Pieces.{IsPlain}
use Rattle.xterm_print.proofs.FindRowLemmas.{letters_used, plain_used}
use Rattle.xterm_print.proofs.find_rows.put_used.Goals as goal

pub returns-clause-letters : goal.returns-clause-letters
returns-clause-letters c =
    letters_used c.args.cells.now c.put_letters.new.letters c.args.letters.now c.args.used c.requires.within c.requires.tail c.requires.count c.requires.spaces c.put_letters.ensures.letters

pub returns-clause-plain : goal.returns-clause-plain
returns-clause-plain c = λ told k lt.
    let cells = c.args.cells.now in
    let used = c.args.used in
    plain_used cells used c.requires.tail (λ j low.
    let inside : j < length (take used cells) = omega (arith, low, length-take-le used cells c.requires.within) in
    subst IsPlain (get_or-take used cells j (blank Default) low) (record { kind = c.put_letters.ensures.kinds told j inside; alone = c.put_letters.ensures.alone told j inside })) k
