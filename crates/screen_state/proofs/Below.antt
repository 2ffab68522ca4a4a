-- What the proofs here stand on.
use Rattle.std.proofs.Common.{ℕ, List, ◌++◌, refl}
use Rattle.vt_screen.proofs.Drawing.{no_rows, line_done, all_rows, placed_there, line_begun, size_drawn, cell_drawn}
use Rattle.vt_screen.proofs.SoundRows.{right_margin_low, right_margin_high}
use Rattle.vt_term.specs.Console.{Console}
use Rattle.vt_term.specs.Printing.{Brings}
use Rattle.vt_term.proofs.Printed.{nothing_brings, parts_bring, characters_bring, controls_bring, designations_bring, control_sequences_bring, private_sequences_bring}
use Rattle.screen_print.proofs.Redrawn.{LawsBelow}

-- the laws that the escaped print's proof stands on
pub below : LawsBelow
below = record {
  nothing = nothing_brings;
  parts = parts_bring;
  characters = characters_bring;
  controls = controls_bring;
  designations = designations_bring;
  sequences = control_sequences_bring;
  privates = private_sequences_bring;
  margin_low = right_margin_low;
  margin_high = right_margin_high;
  wide = refl;
  none_drawn = no_rows;
  line_drawn = line_done;
  all_drawn = all_rows;
  to_place = placed_there;
  single_begun = line_begun;
  size_begun = size_drawn;
  cell_drawn = cell_drawn;
}

-- what one text brings, and then another
pub joined : {s t u : Console} {first second : List ℕ} → Brings s first t → Brings t second u → Brings s (first ++ second) u
joined {s = s} {t = t} {u = u} {first = first} {second = second} before after = parts_bring s t u first second before after
