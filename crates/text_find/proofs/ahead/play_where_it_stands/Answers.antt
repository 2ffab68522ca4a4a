use Rattle.std.proofs.Common.{◌≤◌, ◌++◌, List, ℕ, refl, sym, ◌∙◌, take}
use Rattle.std.proofs.lemmas.Bool.{leb-true}
use Rattle.standings.proofs.SpanLemmas.{stays_none}
use Rattle.text_find.specs.Lines.{AreBetween}
use Rattle.text_find.proofs.CalmLemmas.{lags_on, lags_since, quiet_calm, stays_calm, trails_on}
use Rattle.text_find.proofs.ahead.play_where_it_stands.Goals as goal

pub returns-then-is_none-clause-piece : goal.returns-then-is_none-clause-piece
returns-then-is_none-clause-piece g c =
    let text = c.args.text.now in
    let bytes = c.args.bytes.now in
    let span = c.in_ok-span.span in
    let taken = c.in_ok-taken.taken in
    let ends = c.catch_up.new.sides in
    let steps = c.trail.new.steps in
    let piece = c.in_ok-taken.ensures in
    let none : span.to ≤ span.from = leb-true span.to span.from (sym c.is_none.ensures ∙ c.if-is_none.true) in
    let rows = stays_none span c.args.ends.now.after.rows.items ends.after.rows.items none c.in_ok-span.ensures.others in
    let after : (profile : g.row.T-Profile.Denot) (first before : List ℕ) → g.T.Plays.shows profile c.args.ahead.now before
    → AreBetween text (g.F.Finder.screens profile first) (g.F.Finder.screens profile before) c.args.ends.now
    → AreBetween text (g.F.Finder.screens profile first) (g.F.Finder.screens profile (before ++ take taken bytes)) ends = λ profile first before h are.
    c.in_ok-span.ensures.sides profile first before (before ++ take taken bytes) (piece.shows profile before h) (piece.told profile before h) are in
    record {
      some = piece.some;
      within = piece.within;
      lags = λ lags. lags_on c.args.ends.now ends steps rows (c.in_ok-trail.ensures.lags lags);
      played = piece.shows;
      between = after;
      trails = λ profile first before h are trails.
          trails_on text c.args.ends.now ends steps rows (c.in_ok-trail.ensures.trails text (g.F.Finder.screens profile before) are.after trails);
      calm = λ profile first before h are trails calm.
          let screen = g.F.Finder.screens profile in
          stays_calm text (screen first) screen before bytes taken (piece.quiet profile before h are.after.rows are.after.places)
          (sym are.after.rows ∙ sym rows ∙ (after profile first before h are).after.rows);
      stood = λ profile first before h are trails no stands. c.in_ok-trail.ensures.stood text (g.F.Finder.screens profile before) are.after trails;
    }

pub returns-clause-piece : goal.returns-clause-piece
returns-clause-piece g c =
    let text = c.args.text.now in
    let bytes = c.args.bytes.now in
    let taken = c.in_ok-taken.taken in
    let ends = c.catch_up.new.sides in
    let piece = c.in_ok-taken.ensures in
    let after : (profile : g.row.T-Profile.Denot) (first before : List ℕ) → g.T.Plays.shows profile c.args.ahead.now before
    → AreBetween text (g.F.Finder.screens profile first) (g.F.Finder.screens profile before) c.args.ends.now
    → AreBetween text (g.F.Finder.screens profile first) (g.F.Finder.screens profile (before ++ take taken bytes)) ends = λ profile first before h are.
    c.in_ok-span.ensures.sides profile first before (before ++ take taken bytes) (piece.shows profile before h) (piece.told profile before h) are in
    record {
      some = piece.some;
      within = piece.within;
      lags = λ lags.
          let kept = c.in_ok-trail.ensures.lags lags in
          record { before = c.widened-steps.ensures _ _ _ kept.before c.in_ok-span.ensures.others; after = kept.after };
      played = piece.shows;
      between = after;
      trails = λ profile first before h are trails.
          let kept = c.in_ok-trail.ensures.trails text (g.F.Finder.screens profile before) are.after trails in
          record { lags = record { before = c.widened-steps.ensures _ _ _ kept.lags.before c.in_ok-span.ensures.others; after = kept.lags.after }; stood = kept.stood };
      calm = λ profile first before h are trails calm.
          let screen = g.F.Finder.screens profile in
          let still = after profile first before h are in
          let stood = c.in_ok-trail.ensures.stood text (screen before) are.after trails in
          let kept = c.in_ok-trail.ensures.lags trails.lags in
          quiet_calm text (screen first) screen before bytes taken ends.before c.trail.new.steps.sides.before ends.after
          (piece.quiet profile before h are.after.rows are.after.places) still.before
          stood still.after
          (c.none_passes-calm.ensures calm text (screen before) (screen (before ++ take taken bytes)) refl still.before.stood
          (lags_since text (screen first) (screen before) c.args.ends.now ends c.trail.new.steps.sides.before c.catch_up.ensures.before are stood) stood still.after (c.widened-steps.ensures _ _ _ kept.before c.in_ok-span.ensures.others));
      stood = λ profile first before h are trails no stands. c.in_ok-trail.ensures.stood text (g.F.Finder.screens profile before) are.after trails;
    }
