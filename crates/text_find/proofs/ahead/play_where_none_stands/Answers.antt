use Rattle.std.proofs.Common.{◌≡◌, ◌≤◌, [], ◌++◌, List, ℕ, ap, arith, sym, true, ◌∙◌, take}
use Rattle.std.specs.Vec.{vec_len}
use Rattle.std.proofs.lemmas.Bool.{eqb-true, leb-true}
use Rattle.std.proofs.lemmas.List.{nil_from_length}
use Rattle.standings.proofs.SpanLemmas.{stays_none}
use Rattle.standings.specs.Standing.{standing}
use Rattle.text_find.specs.Lines.{AreBetween, IsLagging}
use Rattle.text_find.proofs.CalmLemmas.{lags_on, nowhere_calm, trails_on}
use Rattle.text_find.proofs.ahead.play_where_none_stands.Goals as goal

pub returns-then-is_none-clause-piece : goal.returns-then-is_none-clause-piece
returns-then-is_none-clause-piece g c =
    let text = c.args.text.now in
    let bytes = c.args.bytes.now in
    let span = c.in_ok-span.span in
    let taken = c.in_ok-taken.taken in
    let ends = c.catch_up.new.sides in
    let piece = c.in_ok-taken.ensures in
    let none : span.to ≤ span.from = leb-true span.to span.from (sym c.is_none.ensures ∙ c.if-is_none.true) in
    let rows = stays_none span c.args.ends.now.after.rows.items ends.after.rows.items none c.in_ok-span.ensures.others in
    let after : (profile : g.row.T-Profile.Denot) (first before : List ℕ) → g.T.Plays.shows profile c.args.ahead.now before
    → AreBetween text (g.F.Finder.screens profile first) (g.F.Finder.screens profile before) c.args.ends.now
    → AreBetween text (g.F.Finder.screens profile first) (g.F.Finder.screens profile (before ++ take taken bytes)) ends = λ profile first before h are.
    c.in_ok-span.ensures.sides profile first before (before ++ take taken bytes) (piece.shows profile before h) (piece.told profile before h) are in
    let same : (profile : g.row.T-Profile.Denot) (first before : List ℕ) → g.T.Plays.shows profile c.args.ahead.now before
    → AreBetween text (g.F.Finder.screens profile first) (g.F.Finder.screens profile before) c.args.ends.now
    → g.F.Finder.screens profile (before ++ take taken bytes) ≡ g.F.Finder.screens profile before = λ profile first before h are.
    sym (after profile first before h are).after.rows ∙ rows ∙ are.after.rows in
    record {
      some = piece.some;
      within = piece.within;
      lags = lags_on c.args.ends.now ends c.args.steps.now rows;
      played = piece.shows;
      between = after;
      trails = λ profile first before h are trails. trails_on text c.args.ends.now ends c.args.steps.now rows trails;
      calm = λ profile first before h are trails calm.
          let screen = g.F.Finder.screens profile in
          let nowhere : standing text (screen before) ≡ [] = sym are.after.places ∙ c.requires.none in
          nowhere_calm text (screen first) screen before bytes taken
          (piece.between profile before h nowhere (ap (standing text) (same profile first before h are) ∙ nowhere));
      stood = λ profile first before h are trails no stands. absurd (stands c.requires.none);
    }

pub returns-clause-piece : goal.returns-clause-piece
returns-clause-piece g c =
    let text = c.args.text.now in
    let bytes = c.args.bytes.now in
    let taken = c.in_ok-taken.taken in
    let ends = c.catch_up.new.sides in
    let piece = c.in_ok-taken.ensures in
    let more : IsLagging c.args.ends.now c.args.steps.now → IsLagging ends (record { sides = c.args.steps.now.sides; count = c.args.steps.now.count; lag = c.widened-steps.result }) = λ lags.
    record { before = c.widened-steps.ensures _ _ _ lags.before c.in_ok-span.ensures.others; after = lags.after } in
    let after : (profile : g.row.T-Profile.Denot) (first before : List ℕ) → g.T.Plays.shows profile c.args.ahead.now before
    → AreBetween text (g.F.Finder.screens profile first) (g.F.Finder.screens profile before) c.args.ends.now
    → AreBetween text (g.F.Finder.screens profile first) (g.F.Finder.screens profile (before ++ take taken bytes)) ends = λ profile first before h are.
    c.in_ok-span.ensures.sides profile first before (before ++ take taken bytes) (piece.shows profile before h) (piece.told profile before h) are in
    let empty : c.is_empty.result ≡ true → ends.after.places.items ≡ [] = λ calm.
    let count : vec_len ends.after.places ≡ 0 = eqb-true (vec_len ends.after.places) 0 (sym c.is_empty.ensures ∙ calm) in
    nil_from_length ends.after.places.items (omega (arith, count)) in
    record {
      some = piece.some;
      within = piece.within;
      lags = more;
      played = piece.shows;
      between = after;
      trails = λ profile first before h are trails. record { lags = more trails.lags; stood = trails.stood };
      calm = λ profile first before h are trails calm.
          let screen = g.F.Finder.screens profile in
          nowhere_calm text (screen first) screen before bytes taken
          (piece.between profile before h (sym are.after.places ∙ c.requires.none) (sym (after profile first before h are).after.places ∙ empty calm));
      stood = λ profile first before h are trails no stands. absurd (stands c.requires.none);
    }
