use Rattle.std.proofs.Common.{◌+◌, ◌∙◌, [], refl, subst, sym, arith}
use Rattle.std.proofs.lemmas.Result.{err_from_is_err_and}
use Rattle.tape_core.specs.Devices.{Gave}
use Rattle.chunk_walk.specs.Walk.{text_of}
use Rattle.chunk_walk.proofs.SeekLemmas.{kept_back, kept_there, only_seeks_more, text_stays}
use Rattle.chunk_walk.proofs.TextLemmas.{texts_cut, texts_left, texts_more}
use Rattle.chunk_walk.proofs.walk.visit_between.Goals as goal

pub returns-then-failed-clause-gave : goal.returns-then-failed-clause-gave
returns-then-failed-clause-gave g c =
    c.gives_end.ensures.failed _ _ _ [] _ refl (sym c.failed.ensures ∙ c.if-failed.true) (c.gives_join.ensures.nothing c.args.writer.now)

pub returns-in_err-kept-clause-refused : goal.returns-in_err-kept-clause-refused
returns-in_err-kept-clause-refused g c =
    let p = err_from_is_err_and c.from_residual.result c.from_residual.ensures.1 in
    rw p.1 record {
      sound = sym c.failed.ensures ∙ c.if-failed.false;
      front = [];
      rest = _;
      cut = refl;
      gave = c.gives_join.ensures.nothing c.args.writer.now;
    }

pub visit_chunk-requires-clause-before : goal.visit_chunk-requires-clause-before
visit_chunk-requires-clause-before g c =
    kept_there g.V.Visitor.keeps c.args.session.now c.loop-index.session c.loop-index.kept c.loop-index.index c.loop-index.invariant.going c.loop-index.invariant.kept

pub returns-in_err-visit_chunk-clause-refused : goal.returns-in_err-visit_chunk-clause-refused
returns-in_err-visit_chunk-clause-refused g c =
    let p = err_from_is_err_and c.from_residual-in_err-visit_chunk.result c.from_residual-in_err-visit_chunk.ensures.1 in
    let s = c.args.session.now in
    let f = text_of (g.V.Visitor.text c.args.visitor.now) s.profile s.recording in
    rw (p.1, c.in_err-visit_chunk.ensures.untouched) record {
      sound = c.loop-index.invariant.sound;
      front = _;
      rest = _;
      cut = texts_left f c.args.start c.args.end c.loop-index.index (omega arith) (omega arith);
      gave = c.loop-index.invariant.gave;
    }

pub returns-then-failed-2-clause-gave : goal.returns-then-failed-2-clause-gave
returns-then-failed-2-clause-gave g c =
    let s = c.args.session.now in
    let t = c.loop-index.session in
    let index = c.loop-index.index in
    let kept = c.loop-index.invariant in
    let text = g.V.Visitor.text c.args.visitor.now in
    let here = text_of text t.profile t.recording index in
    c.gives_end.ensures.failed _ _ _ _ _
    (texts_cut (text_of text s.profile s.recording) c.args.start c.args.end index here (omega arith) (omega arith) (text_stays text s t index kept.going))
    (sym c.failed-in-loop-index.ensures ∙ c.if-failed-2.true) (c.gives_join.ensures.both _ _ _ _ _ c.in_ok-visit_chunk.ensures.ok kept.gave)

pub loop-index-preserved : goal.loop-index-preserved
loop-index-preserved g c =
    let s = c.args.session.now in
    let t = c.loop-index.session in
    let index = c.loop-index.index in
    let kept = c.loop-index.invariant in
    let text = g.V.Visitor.text c.args.visitor.now in
    let here = text_of text t.profile t.recording index in
    record {
      kept = kept_back g.V.Visitor.keeps s t c.visit_chunk.new.kept (index + 1) kept.going c.in_ok-visit_chunk.ensures.after;
      going = only_seeks_more kept.going c.visit_chunk.ensures.stays;
      sound = sym c.failed-in-loop-index.ensures ∙ c.if-failed-2.false;
      gave = subst (Gave g.W.Write.contents c.args.writer.now c.visit_chunk.new.writer) (texts_more (text_of text s.profile s.recording) c.args.start index here (omega arith) (text_stays text s t index kept.going))
          (c.gives_join.ensures.both _ _ _ _ _ c.in_ok-visit_chunk.ensures.ok kept.gave);
    }
