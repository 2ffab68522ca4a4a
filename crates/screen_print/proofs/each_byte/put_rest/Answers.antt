use Rattle.std.proofs.Common.{◌∙◌, arith, refl, subst, sym}
use Rattle.tape_core.specs.Devices.{Gave}
use Rattle.screen_print.specs.EachByte.{chunk_lines_at}
use Rattle.chunk_walk.proofs.TextLemmas.{texts_cut, texts_more}
use Rattle.screen_print.proofs.each_byte.put_rest.Goals as goal

pub returns-then-failed : goal.returns-then-failed
returns-then-failed g c = λ profile h.
    let index = c.loop-index.index in
    let f = chunk_lines_at c.args.text.now profile c.args.recording.now in
    c.gives_end.ensures.failed _ _ _ _ _
    (texts_cut f c.args.start c.args.end index (f index) (omega arith) (omega arith) refl)
    (sym c.failed.ensures ∙ c.if-failed.true)
    (c.gives_join.ensures.both _ _ _ _ _ (c.put_chunk_at-known.ensures.gave profile (c.loop-index.invariant.shows profile h)) (c.loop-index.invariant.gave profile h))

pub loop-index-preserved : goal.loop-index-preserved
loop-index-preserved g c =
    let index = c.loop-index.index in
    let kept = c.loop-index.invariant in
    record {
      shows = λ profile h. c.put_chunk_at-known.ensures.shows profile (kept.shows profile h);
      scratch = c.put_chunk_at-known.ensures.scratch;
      known = c.put_chunk_at-known.ensures.known;
      kept = c.put_chunk_at-known.ensures.kept;
      gave = λ profile h.
          let f = chunk_lines_at c.args.text.now profile c.args.recording.now in
          subst (Gave g.W.Write.contents c.args.writer.now c.put_chunk_at-known.new.writer) (texts_more f c.args.start index (f index) (omega arith) refl)
          (c.gives_join.ensures.both _ _ _ _ _ (c.put_chunk_at-known.ensures.gave profile (kept.shows profile h)) (kept.gave profile h));
    }
