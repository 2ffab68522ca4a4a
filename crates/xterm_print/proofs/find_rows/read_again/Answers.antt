use Rattle.std.proofs.Common.{◌≡◌, ◌-◌, ◌∙◌, Bool, List, ap, ap₂, arith, length, min, not, subst, sym, take}
use Rattle.std.specs.Prelude.{◌||◌, if◌then◌else◌}
use Rattle.std.specs.List.{flat_map}
use Rattle.std.proofs.lemmas.Bool.Decides.{nat_tests}
use Rattle.xterm_rows.specs.RowText.{characters}
use Rattle.sheet.specs.Cells.{Cell}
use Rattle.xterm_print.specs.FindRows.{columns_from, ends_in_space, kept_cells, leaves_last, row_read}
use Rattle.xterm_print.specs.Pieces.{BlankFrom}
use Rattle.xterm_print.proofs.FindRowLemmas.{blank_kept}
use Rattle.xterm_print.proofs.find_rows.read_again.Goals as goal
use Rattle.xterm_print.proofs.find_rows.read_again.Goals.{then-not-ends, else-not-ends}

kept_is : (cells next kept : List Cell) (leaves : Bool) → leaves ≡ leaves_last cells next → kept ≡ (if leaves then take (length cells - 1) cells else cells) → kept ≡ kept_cells cells next
unfolding kept_cells
kept_is cells next kept leaves told is = is ∙ ap (λ b. if b then take (length cells - 1) cells else cells) told

pub read_kept-requires-clause-tail : goal.read_kept-requires-clause-tail
read_kept-requires-clause-tail c =
    let cells = c.args.cells.now in
    let next = c.args.next.now in
    let kept = c.kept_cells-kept.result.now in
    let are = kept_is cells next kept c.leaves_last-leaves.result c.leaves_last-leaves.ensures c.kept_cells-kept.ensures.kept in
    subst (BlankFrom kept) (sym c.min.ensures) (subst (λ l. BlankFrom l (min c.args.used (length l))) (sym are) (blank_kept cells next c.args.used c.requires.used))

pub returns : goal.returns
unfolding row_read
returns c =
    let cells = c.args.cells.now in
    let next = c.args.next.now in
    let kept = c.kept_cells-kept.result.now in
    let are = kept_is cells next kept c.leaves_last-leaves.result c.leaves_last-leaves.ensures c.kept_cells-kept.ensures.kept in
    let runs : c.if-not-ends.read_kept ≡ (not (ends_in_space cells) || leaves_last cells next) = elim c.if-not-ends.branch [
      | then-not-ends w ↦ grind (arith, nat_tests)
      | else-not-ends w ↦ grind (arith, nat_tests)
    ] in
    c.in_ok-read_kept.ensures ∙ ap₂ (λ l b. record { characters = flat_map characters l; columns = columns_from 1 l; runs_on = b }) are runs
