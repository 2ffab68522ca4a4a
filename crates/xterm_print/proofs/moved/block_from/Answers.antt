use Rattle.std.proofs.Common.{◌≡◌, [], ◌+◌, ◌∷◌, ◌++◌, ◌∙◌, ap, arith, length, sym, take}
use Rattle.std.proofs.Math.Seq.{take-length}
use Rattle.std.proofs.lemmas.List.{length-set, take_more_set}
use Rattle.std.specs.List.{range_with_len}
use Rattle.xterm_print.proofs.KeptLemmas.{range_more}
use Rattle.xterm_print.proofs.moved.block_from.Goals as goal

pub loop-i-preserved : goal.loop-i-preserved
loop-i-preserved c =
    let i = c.loop-i.i in
    let lines = c.loop-i.lines in
    let kept = c.loop-i.invariant in
    let line = c.args.from + i in
    record {
      count = length-set lines i line ∙ kept.count;
      filled = take_more_set lines i line (omega (arith, kept.count)) ∙ ap (λ l. l ++ line ∷ []) kept.filled ∙ sym (range_more c.args.from i);
    }

pub returns-clause-lines : goal.returns-clause-lines
returns-clause-lines c =
    let lines = c.loop-i.lines in
    let all : c.loop-i.i ≡ 16 = omega arith in
    let long : length lines ≡ c.loop-i.i = omega (arith, c.loop-i.invariant.count) in
    sym (take-length lines) ∙ ap (λ n. take n lines) long ∙ c.loop-i.invariant.filled ∙ ap (range_with_len c.args.from) all
