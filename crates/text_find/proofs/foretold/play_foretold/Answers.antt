use Rattle.std.proofs.Common.{◌≡◌, ◌<◌, ◌≤◌, ◌++◌, List, ℕ, ap, length, refl, subst, sym, take, ◌∙◌}
use Rattle.std.proofs.lemmas.Bool.{false≢true}
use Rattle.text_find.specs.Calm.{NonePass}
use Rattle.text_find.specs.Foretold.{taken_by}
use Rattle.text_find.specs.Lines.{AreBetween, IsLagging, IsStill}
use Rattle.text_find.specs.Pieces.{AreQuiet}
use Rattle.text_find.proofs.CalmLemmas.{lags_since, quiet_calm, trails_change}
use Rattle.text_find.proofs.foretold.play_foretold.Goals as goal

pub returns-then-surely-clause-piece : goal.returns-then-surely-clause-piece
returns-then-surely-clause-piece g c =
    let text = c.args.text.now in
    let bytes = c.args.bytes.now in
    let foretold = c.args.foretold in
    let taken = c.taken-taken.result in
    let count : taken ≡ taken_by foretold = c.taken-taken.ensures in
    let ends = c.change.new.ends in
    let more : IsLagging c.args.ends.now c.args.steps.now → IsLagging ends c.change.new.steps = λ lags. c.in_ok-change.ensures.lags (c.in_ok-trail_unless.ensures.lags lags) in
    let after : (profile : g.row.T-Profile.Denot) (first before : List ℕ) → g.T.Plays.shows profile c.args.ahead.now before
    → AreBetween text (g.F.Finder.screens profile first) (g.F.Finder.screens profile before) c.args.ends.now
    → AreBetween text (g.F.Finder.screens profile first) (g.F.Finder.screens profile (before ++ take taken bytes)) ends = λ profile first before h are.
    let screen = g.F.Finder.screens profile in
    let told = c.requires.foretold profile before h are.after.rows are.after.places in
    c.in_ok-change.ensures.between (screen first) (screen before) (screen (before ++ take taken bytes)) told.room
    (ap (λ n. screen (before ++ take n bytes)) count ∙ told.rows) are in
    record {
      some = subst (λ n. 0 < n) (sym count) c.requires.within.some;
      within = subst (λ n. n ≤ length bytes) (sym count) c.requires.within.within;
      lags = more;
      played = λ profile before h. c.in_ok-play.ensures.shows profile before h;
      between = after;
      trails = λ profile first before h are trails.
          let kept = c.in_ok-trail_unless.ensures.trails text (g.F.Finder.screens profile before) are.after trails in
          trails_change text ends c.trail_unless.new.steps c.change.new.steps c.change.ensures.sides (more trails.lags) kept.stood;
      calm = λ profile first before h are trails calm.
          let screen = g.F.Finder.screens profile in
          let told = c.requires.foretold profile before h are.after.rows are.after.places in
          subst (NonePass text (screen first) screen before bytes) (sym count)
          (c.is_calm-surely.ensures.calm c.if-surely.true text screen before bytes are.after.rows are.after.places c.args.letters.now told (screen first));
      stood = λ profile first before h are trails no stands. absurd (false≢true (sym no));
    }

pub returns-clause-piece : goal.returns-clause-piece
returns-clause-piece g c =
    let text = c.args.text.now in
    let bytes = c.args.bytes.now in
    let foretold = c.args.foretold in
    let taken = c.taken-taken.result in
    let count : taken ≡ taken_by foretold = c.taken-taken.ensures in
    let ends = c.change.new.ends in
    let more : IsLagging c.args.ends.now c.args.steps.now → IsLagging ends c.change.new.steps = λ lags. c.in_ok-change.ensures.lags (c.in_ok-trail_unless.ensures.lags lags) in
    let after : (profile : g.row.T-Profile.Denot) (first before : List ℕ) → g.T.Plays.shows profile c.args.ahead.now before
    → AreBetween text (g.F.Finder.screens profile first) (g.F.Finder.screens profile before) c.args.ends.now
    → AreBetween text (g.F.Finder.screens profile first) (g.F.Finder.screens profile (before ++ take taken bytes)) ends = λ profile first before h are.
    let screen = g.F.Finder.screens profile in
    let told = c.requires.foretold profile before h are.after.rows are.after.places in
    c.in_ok-change.ensures.between (screen first) (screen before) (screen (before ++ take taken bytes)) told.room
    (ap (λ n. screen (before ++ take n bytes)) count ∙ told.rows) are in
    record {
      some = subst (λ n. 0 < n) (sym count) c.requires.within.some;
      within = subst (λ n. n ≤ length bytes) (sym count) c.requires.within.within;
      lags = more;
      played = λ profile before h. c.in_ok-play.ensures.shows profile before h;
      between = after;
      trails = λ profile first before h are trails.
          let kept = c.in_ok-trail_unless.ensures.trails text (g.F.Finder.screens profile before) are.after trails in
          trails_change text ends c.trail_unless.new.steps c.change.new.steps c.change.ensures.sides (more trails.lags) kept.stood;
      calm = λ profile first before h are trails calm.
          let screen = g.F.Finder.screens profile in
          let still = after profile first before h are in
          let told = c.requires.foretold profile before h are.after.rows are.after.places in
          let stood = subst (λ sides. IsStill text (screen before) sides.before) (sym c.change.ensures.sides)
          (c.in_ok-trail_unless.ensures.stood c.if-surely.false text (screen before) are.after trails) in
          quiet_calm text (screen first) screen before bytes taken ends.before c.change.new.steps.sides.before ends.after
          (subst (AreQuiet text screen before bytes) (sym count) (c.is_calm-surely.ensures.quiet c.if-surely.false text screen before bytes told.keeps)) still.before
          stood still.after
          (c.none_passes-calm.ensures calm text (screen before) (screen (before ++ take taken bytes)) refl still.before.stood
          (lags_since text (screen first) (screen before) c.args.ends.now ends c.change.new.steps.sides.before c.change.ensures.before are stood) stood still.after (more trails.lags).before);
      stood = λ profile first before h are trails no stands.
          subst (λ sides. IsStill text (g.F.Finder.screens profile before) sides.before) (sym c.change.ensures.sides)
          (c.in_ok-trail_unless.ensures.stood c.if-surely.false text (g.F.Finder.screens profile before) are.after trails);
    }
