use Rattle.std.proofs.Common.{◌≡◌, ◌++◌, ◌∙◌, ap, refl, subst, sym, arith, if◌then◌else◌}
use Rattle.tape_core.specs.Devices.{Gave}
use Rattle.xterm_rows.proofs.RangeLemmas.{texts_from, texts_more}
use Rattle.xterm_picture.specs.Attributes.{text_where}
use Rattle.xterm_picture.specs.Strokes.{dot_left, dot_text, dot_top, dots_text, is_raised, left_before, square_text}
use Rattle.xterm_picture.proofs.DotLemmas.{left_more, top_more}
use Rattle.xterm_picture.proofs.dots.put_dots.Goals as goal

pub loop-dot-init : goal.loop-dot-init
loop-dot-init g c = record { gave = c.gives_join.ensures.nothing c.args.writer.now; left = refl; top = refl }

pub loop-dot-preserved : goal.loop-dot-preserved
unfolding dot_text
loop-dot-preserved g c =
    let pattern = c.args.pattern in
    let dot = c.loop-dot.dot in
    let before = texts_from (dot_text pattern) 0 dot in
    record {
      gave = subst (Gave g.W.Write.contents c.args.writer.now c.put_dot.new.writer)
          (ap (λ left. before ++ text_where (is_raised pattern dot) (square_text left c.loop-dot.top (dot_left dot) (dot_top dot))) c.loop-dot.invariant.left
          ∙ ap (λ top. before ++ text_where (is_raised pattern dot) (square_text (left_before pattern dot) top (dot_left dot) (dot_top dot))) c.loop-dot.invariant.top
          ∙ sym (texts_more (dot_text pattern) 0 dot (omega arith)))
          (c.gives_join.ensures.both _ _ _ _ _ c.put_dot.ensures c.loop-dot.invariant.gave);
      left = c.left_behind-left.ensures
          ∙ ap (λ left. if is_raised pattern dot then dot_left dot else left) c.loop-dot.invariant.left ∙ sym (left_more pattern dot);
      top = c.top_behind-top.ensures
          ∙ ap (λ top. if is_raised pattern dot then dot_top dot else top) c.loop-dot.invariant.top ∙ sym (top_more pattern dot);
    }

pub returns : goal.returns
unfolding dots_text
returns g c =
    let all : c.loop-dot.dot ≡ 8 = omega arith in
    subst (λ n. Gave g.W.Write.contents c.args.writer.now c.loop-dot.writer (texts_from (dot_text c.args.pattern) 0 n)) all
    c.loop-dot.invariant.gave
