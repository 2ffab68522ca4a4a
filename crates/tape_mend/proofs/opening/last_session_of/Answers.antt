use Rattle.std.proofs.Common.{◌+◌, cond, ap, sym, ◌∙◌, arith}
use Rattle.std.specs.List.{fold, range_with_len}
use Rattle.tape_mend.specs.Mended.{later}
use Rattle.tape_mend.proofs.OpeningLemmas.{later_more}
use Rattle.tape_mend.proofs.opening.last_session_of.Goals as goal
use Rattle.tape_mend.proofs.opening.last_session_of.Goals.{then-begins_session_at, else-begins_session_at}

pub loop-at-preserved : goal.loop-at-preserved
loop-at-preserved c =
    let script = c.args.script.now in
    let at = c.loop-at.at in
    let before = fold (later script) 0 (range_with_len 0 at) in
    elim c.if-begins_session_at.branch [
      | then-begins_session_at w ↦ record {
        within = omega arith;
        places = w.last-is
            ∙ sym (later_more script at ∙ ap (λ b. cond b (at + 1) before) (sym c.begins_session_at.ensures ∙ w.if-begins_session_at.true));
      }
      | else-begins_session_at w ↦ record {
        within = omega arith;
        places = w.last-is ∙ c.loop-at.invariant.places
            ∙ sym (later_more script at ∙ ap (λ b. cond b (at + 1) before) (sym c.begins_session_at.ensures ∙ w.if-begins_session_at.false));
      }
    ]
