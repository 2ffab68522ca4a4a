use Rattle.std.proofs.Common.{◌≡◌, length, take}
use Rattle.vt_screen.specs.Limits.{wide_columns}
use Rattle.screen_rows.specs.Plain.{glyphs_of, low_bytes}
use Rattle.screen_rows.proofs.plain.numbers_of.Given as goal

-- the glyphs of those so far
abbrev pub invariant-loop-at : goal.invariant-loop-at
invariant-loop-at l = record {
  told : low_bytes (take l.at l.numbers) ≡ glyphs_of (take l.at l.cells);
  whole : length l.numbers ≡ wide_columns;
}
