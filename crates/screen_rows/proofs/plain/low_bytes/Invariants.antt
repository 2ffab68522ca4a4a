use Rattle.std.proofs.Common.{◌≡◌, length, take}
use Rattle.vt_screen.specs.Limits.{wide_columns}
use Rattle.screen_rows.specs.Plain.{low_bytes}
use Rattle.screen_rows.proofs.plain.low_bytes.Given as goal

-- those so far
abbrev pub invariant-loop-at : goal.invariant-loop-at
invariant-loop-at l = record {
  told : take l.at l.bytes ≡ low_bytes (take l.at l.numbers);
  whole : length l.bytes ≡ wide_columns;
}
