use Rattle.std.proofs.Common.{◌≡◌, ◌+◌, ◌-◌, ◌++◌, ℕ, List, ap, arith, subst, sym}
use Rattle.std.specs.List.{flat_map, range_with_len}
use Rattle.screen_page.specs.EntryText.{comma_number}
use Rattle.xterm_rows.proofs.RangeLemmas.{no_texts, texts_more}
use Rattle.held.specs.Held.{Wrote}
use Rattle.held.proofs.HeldLemmas.{wrote_both, wrote_none}
use Rattle.xterm_page.proofs.moved.put_come.Goals as goal

pub loop-line-init : goal.loop-line-init
loop-line-init g c =
    let text : ℕ → List ℕ = λ line. comma_number line ++ comma_number (line + c.args.shift) in
    subst (Wrote g.W.Write.contents c.args.writer.now c.args.held.now.items c.args.writer.now c.args.held.now.items)
    (no_texts text c.args.from) (wrote_none c.args.writer.now c.args.held.now.items)

pub loop-line-preserved : goal.loop-line-preserved
loop-line-preserved g c =
    let text : ℕ → List ℕ = λ line. comma_number line ++ comma_number (line + c.args.shift) in
    subst (Wrote g.W.Write.contents c.args.writer.now c.args.held.now.items c.put_moved.new.writer c.put_moved.new.held.items)
    (sym (texts_more text c.args.from c.loop-line.line (omega arith))) (wrote_both c.put_moved.ensures c.loop-line.invariant)

pub returns : goal.returns
returns g c =
    let from = c.args.from in
    let text : ℕ → List ℕ = λ line. comma_number line ++ comma_number (line + c.args.shift) in
    let count : c.loop-line.line - from ≡ c.args.end - from = omega arith in
    subst (Wrote g.W.Write.contents c.args.writer.now c.args.held.now.items c.loop-line.writer c.loop-line.held.items)
    (ap (λ n. flat_map text (range_with_len from n)) count) c.loop-line.invariant
