-- The letters of runs.
use Rattle.std.proofs.Common.{◌≡◌, ◌<◌, Bool, List, [], ◌∷◌, ◌++◌, codes, length, refl, arith}
use Rattle.std.specs.List.{flat_map}
use Rattle.vt_screen.specs.declared.cell.Row.{Row}
use Rattle.screen_rows.specs.declared.runs.Run.{Run}
use Rattle.screen_picture.specs.Letters.{span_text, spans_text}

-- where there is a run
pub spans_some : (reversed : Bool) (row : Row) (runs : List Run) → 0 < length runs
    → spans_text reversed row runs ≡ codes "<text y=\"15\">" ++ flat_map (span_text reversed row) runs ++ codes "</text>"
spans_some reversed row [] some = absurd (omega arith)
spans_some reversed row (run ∷ runs) some = refl
