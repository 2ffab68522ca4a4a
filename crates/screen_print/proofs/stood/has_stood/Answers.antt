use Rattle.std.proofs.Common.{◌-◌, ◌∙◌, arith, sym, take}
use Rattle.std.proofs.lemmas.Bool.{and_left, and_right, false≢true}
use Rattle.screen_print.specs.ByLine.{row_on}
use Rattle.screen_print.specs.EachByte.{is_lone}
use Rattle.screen_print.specs.FindLines.{standing}
use Rattle.screen_print.proofs.ByLineLemmas.{ended_not_lone}
use Rattle.screen_print.proofs.stood.has_stood.Goals as goal

pub returns-then-has_row : goal.returns-then-has_row
returns-then-has_row c = λ _ column low high begins.
    let text = c.args.sought.now.text.now in
    let one = c.args.one.now in
    let first = c.args.ends.now.first.now in
    let last = c.args.ends.now.last.now in
    let line = c.args.line in
    let yes = c.if-has_row.true in
    let left = take (column - 1) (row_on one line) in
    and_left (is_lone first (standing text first) left) (is_lone last (standing text last) left)
    (ended_not_lone text one first line line column c.sound.ensures.whole c.sound-2.ensures.whole c.requires.low c.requires.high c.requires.low c.requires.high
    (c.has_row.ensures.wide yes) (c.has_row.ensures.same yes) (c.has_row.ensures.ends yes) low high begins)

pub returns-then-is_bare : goal.returns-then-is_bare
returns-then-is_bare c = λ _ column low high begins.
    elim (false≢true (sym (c.is_bare.ensures c.if-is_bare.true column low high) ∙ begins)) [ ]

pub returns-then-has_row-2 : goal.returns-then-has_row-2
returns-then-has_row-2 c = λ _ column low high begins.
    let text = c.args.sought.now.text.now in
    let one = c.args.one.now in
    let first = c.args.ends.now.first.now in
    let last = c.args.ends.now.last.now in
    let line = c.args.line in
    let yes = c.if-has_row-2.true in
    let left = take (column - 1) (row_on one line) in
    and_right (is_lone first (standing text first) left) (is_lone last (standing text last) left)
    (ended_not_lone text one last line c.loop-there.there column c.sound.ensures.whole c.sound-3.ensures.whole c.requires.low c.requires.high (omega arith) (omega arith)
    (c.has_row-in-loop-there.ensures.wide yes) (c.has_row-in-loop-there.ensures.same yes) (c.has_row-in-loop-there.ensures.ends yes) low high begins)
