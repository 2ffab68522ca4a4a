use Rattle.std.proofs.Common.{◌≡◌, ◌≤◌, ◌<◌, ◌+◌, ℕ, ap, sym, subst, arith}
use Rattle.xterm_rows.specs.Letters.{IsLetter}
use Rattle.xterm_rows.specs.Runs.{cell_behind}
use Rattle.xterm_rows.proofs.LetterLemmas.{letter_read, letters_more, none_begin}
use Rattle.xterm_rows.proofs.runs.letters_end.Goals as goal

pub loop-end-init : goal.loop-end-init
loop-end-init c =
    let first = c.index-cells-at.result in
    let is = letter_read c.args.cells.now c.args.at first first.rendition c.requires c.index-cells-at.is (c.is_letter.ensures c.if-is_letter.true) in
    record {
      low = omega arith;
      high = omega (arith, c.requires);
      letters = λ k low high. let here : c.args.at ≡ k = omega (arith, low, high) in subst (λ n. IsLetter first.rendition (cell_behind c.args.cells.now n)) here is;
    }

pub loop-end-preserved : goal.loop-end-preserved
loop-end-preserved c =
    let first = c.index-cells-at.result in
    let cell = c.index-cells-end.result in
    let is = letter_read c.args.cells.now c.loop-end.end cell first.rendition c.loop-end-test.true c.index-cells-end.is (c.is_letter_like.ensures c.if-is_letter_like.true) in
    record {
      low = omega (arith, c.loop-end.invariant.low);
      high = omega (arith, c.loop-end-test.true);
      letters = letters_more first.rendition c.args.cells.now c.args.at c.loop-end.end c.loop-end.invariant.letters is;
    }

pub returns-else-is_letter_like-clause-none : goal.returns-else-is_letter_like-clause-none
returns-else-is_letter_like-clause-none c =
    none_begin c.index-cells-at.result.rendition c.args.cells.now c.args.at c.loop-end.end c.loop-end.invariant.letters

pub returns-after-loop-end-clause-none : goal.returns-after-loop-end-clause-none
returns-after-loop-end-clause-none c =
    none_begin c.index-cells-at.result.rendition c.args.cells.now c.args.at c.loop-end.end c.loop-end.invariant.letters
