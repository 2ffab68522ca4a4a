use Rattle.std.proofs.Common.{◌≡◌, ℕ, ◌-◌, ◌+◌, ◌≤◌, List, [], ◌++◌, ◌∙◌, ap, arith, refl, subst, sym}
use Rattle.tape_core.specs.Devices.{Gave}
use Rattle.screen_print.specs.EachByte.{chunk_lines_at}
use Rattle.chunk_walk.proofs.TextLemmas.{texts_from, texts_left}
use Rattle.screen_print.proofs.each_byte.put_each.Goals as goal

-- where the chunks up to one have no lines, all lines are those from it on
texts_past : (f : ℕ → List ℕ) (start end index : ℕ) → start ≤ index → index ≤ end → texts_from f start (index - start) ≡ []
    → texts_from f index (end - index) ≡ texts_from f start (end - start)
texts_past f start end index low high none =
    let n = index - start in
    let at : start + n ≡ index = omega arith in
    let left : end - start - n ≡ end - index = omega arith in
    sym (texts_left f start end index low high ∙ ap (λ l. l ++ texts_from f (start + n) (end - start - n)) none
    ∙ ap (λ a. texts_from f a (end - start - n)) at ∙ ap (texts_from f index) left)

pub returns-then-failed : goal.returns-then-failed
returns-then-failed g c = λ profile h.
    let writer = c.args.writer.now in
    let all = texts_from (chunk_lines_at c.args.text.now profile c.args.recording.now) c.args.start (c.args.end - c.args.start) in
    c.gives_end.ensures.failed writer writer all [] all refl (sym c.failed.ensures ∙ c.if-failed.true) (c.gives_join.ensures.nothing writer)

pub returns-then-index-end : goal.returns-then-index-end
returns-then-index-end g c = λ profile h.
    let f = chunk_lines_at c.args.text.now profile c.args.recording.now in
    subst (Gave g.W.Write.contents c.args.writer.now c.args.writer.now)
    (sym (c.pass_some-index.ensures.nothing profile h) ∙ ap (λ n. texts_from f c.args.start (n - c.args.start)) c.if-index-end.true)
    (c.gives_join.ensures.nothing c.args.writer.now)

pub returns : goal.returns
returns g c = λ profile h.
    let index = c.pass_some-index.result in
    let passed = c.pass_some-index.ensures in
    subst (Gave g.W.Write.contents c.args.writer.now c.put_rest.new.writer)
    (texts_past (chunk_lines_at c.args.text.now profile c.args.recording.now) c.args.start c.args.end index passed.low passed.high (passed.nothing profile h))
    (c.put_rest.ensures profile (passed.shows profile h))
