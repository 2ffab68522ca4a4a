use Rattle.std.proofs.Common.{◌≡◌, subst, sym, arith}
use Rattle.tape_core.specs.Devices.{Gave}
use Rattle.xterm_rows.proofs.RangeLemmas.{no_texts, texts_from, texts_more}
use Rattle.xterm_picture.specs.Letters.{place_text}
use Rattle.xterm_picture.proofs.letters.put_further.Goals as goal

pub loop-at-init : goal.loop-at-init
loop-at-init g c =
    subst (Gave g.W.Write.contents c.args.writer.now c.args.writer.now) (no_texts (place_text c.args.cells.now) c.args.from)
    (c.gives_join.ensures.nothing c.args.writer.now)

pub loop-at-preserved : goal.loop-at-preserved
loop-at-preserved g c =
    subst (Gave g.W.Write.contents c.args.writer.now c.put_place.new.writer)
    (sym (texts_more (place_text c.args.cells.now) c.args.from c.loop-at.at c.loop-at.auto.at))
    (c.gives_join.ensures.both _ _ _ _ _ c.put_place.ensures c.loop-at.invariant)

pub returns : goal.returns
returns g c =
    let all : c.loop-at.at ≡ c.args.end = omega (arith, c.requires.low, c.loop-at.auto.at-end, c.loop-at-test.false) in
    subst (λ n. Gave g.W.Write.contents c.args.writer.now c.loop-at.writer (texts_from (place_text c.args.cells.now) c.args.from n))
    all c.loop-at.invariant
