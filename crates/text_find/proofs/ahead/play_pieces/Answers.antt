use Rattle.std.proofs.Common.{◌≡◌, ◌∙◌, ◌++◌, [], ap, append-nil, arith, length, refl, subst, sym, take}
use Rattle.std.specs.Vec.{vec_len}
use Rattle.std.proofs.lemmas.Bool.{eqb-false}
use Rattle.std.proofs.lemmas.List.{length-drop, take_rest}
use Rattle.text_find.specs.Calm.{HasStood, NonePass}
use Rattle.text_find.specs.Lines.{AreBetween}
use Rattle.text_find.proofs.CalmLemmas.{ahead_more, calm_more, stood_none}
use Rattle.text_find.proofs.ahead.play_pieces.Goals as goal
use Rattle.text_find.proofs.ahead.play_pieces.Goals.{then-stands, else-stands}

pub loop-taken-init : goal.loop-taken-init
loop-taken-init g c = record {
  within = omega arith;
  count = refl;
  lags = λ lags. lags;
  ahead = λ profile before h are. record {
    played = subst (g.T.Plays.shows profile c.args.ahead.now) (sym (append-nil before)) h;
    between = subst (λ b. AreBetween c.args.text.now (g.F.Finder.screens profile before) (g.F.Finder.screens profile b) c.args.ends.now) (sym (append-nil before)) are;
  };
  trails = λ profile before h are trails. trails;
  calm = λ profile before h are trails index due last lasts. refl;
}

pub returns-then-not-calm-clause-ahead : goal.returns-then-not-calm-clause-ahead
returns-then-not-calm-clause-ahead g c = λ profile before h are.
    let text = c.args.text.now in
    let bytes = c.args.bytes.now in
    let at = c.loop-taken.taken in
    let taken = c.in_ok-more.more in
    let rest = take_rest bytes at in
    let kept = c.loop-taken.invariant in
    let ends = c.play_piece.new.ends in
    let screen = g.F.Finder.screens profile in
    let so_far = before ++ take at bytes in
    let there = kept.ahead profile before h are in
    ahead_more g.T.Plays.shows g.F.Finder.screens profile text before bytes at taken c.play_piece.new.ahead ends
    (subst (λ b. g.T.Plays.shows profile c.play_piece.new.ahead (so_far ++ take taken b)) rest (c.in_ok-more.ensures.piece.played profile so_far there.played))
    (subst (λ b. AreBetween text (screen before) (screen (so_far ++ take taken b)) ends) rest (c.in_ok-more.ensures.piece.between profile before so_far there.played there.between))

pub returns-then-not-calm-clause-stood : goal.returns-then-not-calm-clause-stood
returns-then-not-calm-clause-stood g c = λ profile before h are trails.
    let text = c.args.text.now in
    let bytes = c.args.bytes.now in
    let at = c.loop-taken.taken in
    let screen = g.F.Finder.screens profile in
    let kept = c.loop-taken.invariant in
    let ends = c.loop-taken.ends in
    let not_calm = c.if-not-calm.true in
    elim c.if-stands.branch [
      | then-stands w ↦
          let there = kept.ahead profile before h are in
          let many : vec_len ends.after.places ≡ 0 → ⊥ = eqb-false (vec_len ends.after.places) 0 (sym c.is_empty-stands.ensures ∙ w.if-stands.true) in
          let stands : ends.after.places.items ≡ [] → ⊥ = λ none. many (omega (arith, ap length none)) in
          subst (λ n. HasStood text screen before bytes n c.play_piece.new.steps.sides.before) (sym w.start-is) (record {
            calm = kept.calm profile before h are trails;
            still = λ some. c.in_ok-more.ensures.piece.stood profile before (before ++ take at bytes) there.played there.between (kept.trails profile before h are trails) not_calm stands;
          })
      | else-stands w ↦ subst (λ n. HasStood text screen before bytes n c.play_piece.new.steps.sides.before) (sym w.start-is) (stood_none text screen before bytes c.play_piece.new.steps.sides.before)
    ]

pub loop-taken-preserved : goal.loop-taken-preserved
loop-taken-preserved g c =
    let text = c.args.text.now in
    let bytes = c.args.bytes.now in
    let at = c.loop-taken.taken in
    let taken = c.in_ok-more.more in
    let rest = take_rest bytes at in
    let kept = c.loop-taken.invariant in
    let ends = c.play_piece.new.ends in
    record {
      within = omega (arith, c.in_ok-more.ensures.piece.within, ap length rest, length-drop at bytes);
      count = c.play_piece.ensures.count ∙ kept.count;
      lags = λ lags. c.in_ok-more.ensures.piece.lags (kept.lags lags);
      ahead = λ profile before h are.
          let screen = g.F.Finder.screens profile in
          let so_far = before ++ take at bytes in
          let there = kept.ahead profile before h are in
          ahead_more g.T.Plays.shows g.F.Finder.screens profile text before bytes at taken c.play_piece.new.ahead ends
          (subst (λ b. g.T.Plays.shows profile c.play_piece.new.ahead (so_far ++ take taken b)) rest (c.in_ok-more.ensures.piece.played profile so_far there.played))
          (subst (λ b. AreBetween text (screen before) (screen (so_far ++ take taken b)) ends) rest (c.in_ok-more.ensures.piece.between profile before so_far there.played there.between));
      trails = λ profile before h are trails.
          let there = kept.ahead profile before h are in
          c.in_ok-more.ensures.piece.trails profile before (before ++ take at bytes) there.played there.between (kept.trails profile before h are trails);
      calm = λ profile before h are trails.
          let screen = g.F.Finder.screens profile in
          let so_far = before ++ take at bytes in
          let there = kept.ahead profile before h are in
          calm_more text screen before bytes at taken (kept.calm profile before h are trails)
          (subst (λ b. NonePass text (screen before) screen so_far b taken) rest
          (c.in_ok-more.ensures.piece.calm profile before so_far there.played there.between (kept.trails profile before h are trails) c.if-not-calm.false));
    }
