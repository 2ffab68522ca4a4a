-- What each edit of a row keeps: its length, and that it is whole.
use Rattle.std.proofs.Common.{◌≡◌, ℕ, ◌+◌, Bool, true, false, List, [], ◌∷◌, length, refl, ◌∙◌}
use Rattle.sheet.specs.Cells.{Cell}
use Rattle.sheet.specs.declared.rendition.Colour.{Colour}
use Rattle.sheet.specs.declared.rendition.Rendition.{Rendition}
use Rattle.sheet.specs.Halves.{Whole, mended, parted}
use Rattle.sheet.specs.declared.edit.Edit.{Edit}
use Rattle.sheet.specs.declared.edit.Edit.TheVariants.{Erase, Narrow, Wide, Mark, Insert, Delete}
use Rattle.sheet.specs.EditOf.{edited}
use Rattle.sheet.specs.Cells.{blank}
use Rattle.sheet.specs.Edits.{filled, written, put, run_put, moved_right, inserted, taken_out, deleted}
use Rattle.sheet.proofs.Tables.{length-table}
use Rattle.sheet.proofs.Marks as marks
use Rattle.sheet.proofs.Rows as rows

pub whole_mended : (paper : Colour) (row : List Cell) → Whole (mended paper row)
whole_mended paper row = rows.whole_mended paper row

length_mended : (paper : Colour) (row : List Cell) → length (mended paper row) ≡ length row
length_mended paper row = length-table (length row) _

pub length_put : (column character : ℕ) (wide : Bool) (rendition : Rendition) (row : List Cell) → length (put column character wide rendition row) ≡ length row
length_put column character wide rendition row = length_mended rendition.paper (written column character wide rendition row) ∙ length-table (length row) _

pub length_run : (rendition : Rendition) (cs : List ℕ) (column : ℕ) (row : List Cell) → length (run_put column cs rendition row) ≡ length row
length_run rendition [] column row = refl
length_run rendition (c ∷ cs) column row = length_run rendition cs (column + 1) (put column c false rendition row) ∙ length_put column c false rendition row

pub whole_run : (rendition : Rendition) (cs : List ℕ) (column : ℕ) (row : List Cell) → Whole row → Whole (run_put column cs rendition row)
whole_run rendition [] column row whole = whole
whole_run rendition (c ∷ cs) column row whole = whole_run rendition cs (column + 1) (put column c false rendition row) (whole_mended rendition.paper (written column c false rendition row))

pub length_inserted : (n from : ℕ) (paper : Colour) (row : List Cell) → length (inserted n from paper row) ≡ length row
length_inserted n from paper row = length_mended paper (moved_right n from paper row) ∙ length-table (length row) _

pub length_deleted : (n from : ℕ) (paper : Colour) (row : List Cell) → length (deleted n from paper row) ≡ length row
length_deleted n from paper row =
    let one = parted from paper row in
    let two = parted (from + n) paper one in
    length_mended paper (taken_out n from paper two) ∙ length-table (length two) _ ∙ length-table (length one) _ ∙ length-table (length row) _

pub whole_edited : (e : Edit) (row : List Cell) → Whole row → Whole (edited e row)
whole_edited (Erase from to paper) row whole = whole_mended paper (filled from to (blank paper) row)
whole_edited (Narrow column character rendition) row whole = whole_mended rendition.paper (written column character false rendition row)
whole_edited (Wide column character rendition) row whole = whole_mended rendition.paper (written column character true rendition row)
whole_edited (Mark column mark) row whole = marks.whole_marked column mark row whole
whole_edited (Insert n from paper) row whole = whole_mended paper (moved_right n from paper row)
whole_edited (Delete n from paper) row whole = whole_mended paper (taken_out n from paper (parted (from + n) paper (parted from paper row)))

pub length_edited : (e : Edit) (row : List Cell) → length (edited e row) ≡ length row
length_edited (Erase from to paper) row = rows.length_erased from to paper row
length_edited (Narrow column character rendition) row = length_put column character false rendition row
length_edited (Wide column character rendition) row = length_put column character true rendition row
length_edited (Mark column mark) row = marks.length_marked column mark row
length_edited (Insert n from paper) row = length_inserted n from paper row
length_edited (Delete n from paper) row = length_deleted n from paper row
