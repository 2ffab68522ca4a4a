use Rattle.std.proofs.Common.{ℕ, ◌+◌, ◌-◌, ◌<◌, ◌∙◌, List, ◌++◌, ap, append-nil, arith, length, subst, sym, take}
use Rattle.std.proofs.lemmas.List.{length-drop, take_rest}
use Rattle.std.proofs.lemmas.Result.{err_from_is_err_and}
use Rattle.tape_core.specs.Devices.{Gave}
use Rattle.standings.specs.Standing.{standing}
use Rattle.text_find.specs.Lines.{AreBetween, AreStill, Began, byte_lines, passed_lines}
use Rattle.text_find.specs.Pieces.{AreQuiet}
use Rattle.text_find.proofs.BeganLemmas.{began_at, began_none}
use Rattle.text_find.proofs.QuietLemmas.{lines_at_last, lines_more, none_inside}
use Rattle.text_find.proofs.PieceLemmas.{pieces}
use Rattle.text_find.proofs.each_byte.put_bytes.Goals as goal

pub loop-at-init : goal.loop-at-init
loop-at-init g c = record {
  within = omega arith;
  shows = λ profile before h. subst (g.T.Plays.shows profile c.args.behind.now) (sym (append-nil before)) h;
  still = λ profile before h are. subst (λ b. AreStill c.args.text.now (g.F.Finder.screens profile b) c.args.steps.now) (sym (append-nil before)) are;
  gave = λ profile before h are. c.gives_join.ensures.nothing c.args.writer.now;
}

pub returns-in_err-taken-clause-front : goal.returns-in_err-taken-clause-front
returns-in_err-taken-clause-front g c = λ profile before h are.
    let p = err_from_is_err_and c.from_residual.result c.from_residual.ensures.1 in
    let bytes = c.args.bytes.now in
    let m = c.args.moment in
    let ends = c.args.ends.now in
    let f = byte_lines c.args.text.now m.index m.due ends.before.rows.items ends.before.places.items ends.after.rows.items ends.after.places.items (g.F.Finder.screens profile) before bytes in
    rw p.1 (began_at g.W.Write.contents c.args.writer.now c.loop-at.writer c.loop-at.writer f c.loop-at.at (length bytes) (omega arith) (c.loop-at.invariant.gave profile before h are)
    (began_none g.W.Write.contents c.loop-at.writer (f c.loop-at.at)))

pub returns-in_err-put_step-clause-front : goal.returns-in_err-put_step-clause-front
returns-in_err-put_step-clause-front g c = λ profile before h are.
    let p = err_from_is_err_and c.from_residual-in_err-put_step.result c.from_residual-in_err-put_step.ensures.1 in
    let text = c.args.text.now in
    let bytes = c.args.bytes.now in
    let at = c.loop-at.at in
    let taken = c.in_ok-taken.taken in
    let m = c.args.moment in
    let ends = c.args.ends.now in
    let screen = g.F.Finder.screens profile in
    let rest = take_rest bytes at in
    let some : 0 < taken = c.in_ok-taken.ensures.some in
    let f = byte_lines text m.index m.due ends.before.rows.items ends.before.places.items ends.after.rows.items ends.after.places.items screen before bytes in
    let one = before ++ take at bytes in
    let other = before ++ take (at + taken) bytes in
    let kept = c.loop-at.invariant in
    let still = kept.still profile before h are in
    let between = subst (λ b. AreBetween text (screen one) (screen b) c.play_step.new.steps) (ap (λ b. one ++ take taken b) rest ∙ pieces before bytes at taken)
    (c.in_ok-taken.ensures.between profile one (kept.shows profile before h) still) in
    let quiet = subst (λ b. AreQuiet text screen one b taken) rest (c.in_ok-taken.ensures.quiet profile one (kept.shows profile before h) still) in
    let last : at + (taken - 1) < length bytes = omega (arith, some, c.in_ok-taken.ensures.within, ap length rest, length-drop at bytes) in
    let so_far = subst (λ t. Gave g.W.Write.contents c.args.writer.now c.loop-at.writer t)
    (sym (none_inside text m.index m.due ends.before.rows.items ends.before.places.items ends.after.rows.items ends.after.places.items screen before bytes at taken some quiet)) (kept.gave profile before h are) in
    rw p.1 (began_at g.W.Write.contents c.args.writer.now c.loop-at.writer c.put_step.new.writer f (at + (taken - 1)) (length bytes) last so_far
    (subst (λ t. Began g.W.Write.contents c.loop-at.writer c.put_step.new.writer t)
    (sym (lines_at_last text m.index m.due ends.before.rows.items ends.before.places.items ends.after.rows.items ends.after.places.items screen before bytes at taken some quiet))
    (subst (λ n. Began g.W.Write.contents c.loop-at.writer c.put_step.new.writer (passed_lines m.index m.due n ends.before.rows.items ends.before.places.items ends.after.rows.items ends.after.places.items
    (screen one) (standing text (screen one)) (screen other) (standing text (screen other)))) c.requires
    (c.in_err-put_step.ensures.front text (screen one) (screen other) (sym c.requires) between))))

pub loop-at-preserved : goal.loop-at-preserved
loop-at-preserved g c =
    let text = c.args.text.now in
    let bytes = c.args.bytes.now in
    let at = c.loop-at.at in
    let taken = c.in_ok-taken.taken in
    let m = c.args.moment in
    let ends = c.args.ends.now in
    let kept = c.loop-at.invariant in
    let rest = take_rest bytes at in
    let some : 0 < taken = c.in_ok-taken.ensures.some in
    let shows : (profile : g.row.T-Profile.Denot) (before : List ℕ) → g.T.Plays.shows profile c.args.behind.now before → g.T.Plays.shows profile c.play_step.new.behind (before ++ take (at + taken) bytes) =
    λ profile before h. subst (g.T.Plays.shows profile c.play_step.new.behind) (ap (λ b. (before ++ take at bytes) ++ take taken b) rest ∙ pieces before bytes at taken)
    (c.in_ok-taken.ensures.shows profile (before ++ take at bytes) (kept.shows profile before h)) in
    let between : (profile : g.row.T-Profile.Denot) (before : List ℕ) → g.T.Plays.shows profile c.args.behind.now before → AreStill text (g.F.Finder.screens profile (before ++ take at bytes)) c.loop-at.steps
    → AreBetween text (g.F.Finder.screens profile (before ++ take at bytes)) (g.F.Finder.screens profile (before ++ take (at + taken) bytes)) c.play_step.new.steps = λ profile before h still.
    let screen = g.F.Finder.screens profile in
    let one = before ++ take at bytes in
    subst (λ b. AreBetween text (screen one) (screen b) c.play_step.new.steps) (ap (λ b. one ++ take taken b) rest ∙ pieces before bytes at taken)
    (c.in_ok-taken.ensures.between profile one (kept.shows profile before h) still) in
    record {
      within = omega (arith, c.in_ok-taken.ensures.within, ap length rest, length-drop at bytes);
      shows = shows;
      still = λ profile before h are. c.in_ok-put_step.ensures.still text (g.F.Finder.screens profile (before ++ take at bytes)) (g.F.Finder.screens profile (before ++ take (at + taken) bytes))
          (between profile before h (kept.still profile before h are));
      gave = λ profile before h are.
          let screen = g.F.Finder.screens profile in
          let one = before ++ take at bytes in
          let other = before ++ take (at + taken) bytes in
          let still = kept.still profile before h are in
          let quiet = subst (λ b. AreQuiet text screen one b taken) rest (c.in_ok-taken.ensures.quiet profile one (kept.shows profile before h) still) in
          subst (λ t. Gave g.W.Write.contents c.args.writer.now c.put_step.new.writer t)
          (sym (lines_more text m.index m.due ends.before.rows.items ends.before.places.items ends.after.rows.items ends.after.places.items screen before bytes at taken some quiet))
          (c.gives_join.ensures.both _ _ _ _ _
          (subst (λ n. Gave g.W.Write.contents c.loop-at.writer c.put_step.new.writer (passed_lines m.index m.due n ends.before.rows.items ends.before.places.items ends.after.rows.items ends.after.places.items
          (screen one) (standing text (screen one)) (screen other) (standing text (screen other)))) c.requires
          (c.in_ok-put_step.ensures.gave text (screen one) (screen other) (sym c.requires) (between profile before h still)))
          (kept.gave profile before h are));
    }
