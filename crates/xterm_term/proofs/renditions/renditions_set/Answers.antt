use Rattle.std.proofs.Common.{◌≡◌, ℕ, ◌+◌, List, ◌∷◌, get_or, sym, subst, ◌∙◌, arith}
use Rattle.std.proofs.lemmas.List.{take_rest}
use Rattle.xterm_term.specs.Renditions.{renditions_set}
use Rattle.xterm_term.proofs.Rendered.{taken_at, finished}
use Rattle.xterm_term.proofs.renditions.renditions_set.Goals as goal

pub loop-i-preserved : goal.loop-i-preserved
loop-i-preserved c =
    let params = c.args.params.now in
    let i = c.loop-i.i in
    sym (subst (λ (l : List ℕ). renditions_set c.loop-i.used (get_or params i 0 ∷ l) c.loop-i.rendition ≡ renditions_set c.after_param.result.1 l c.after_param.result.0)
    (take_rest params (i + 1)) c.after_param.ensures)
    ∙ sym (taken_at c.loop-i.used i params c.loop-i.rendition (omega arith))
    ∙ c.loop-i.invariant

pub returns : goal.returns
returns c = finished c.loop-i.used c.loop-i.i c.args.params.now c.loop-i.rendition _ (omega arith) c.loop-i.invariant
