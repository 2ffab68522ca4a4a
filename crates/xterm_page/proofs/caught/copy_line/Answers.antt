use Rattle.std.proofs.Common.{◌≡◌, ◌-◌, ◌≤◌, ◌∙◌, IfSome, List, ap, arith, length, subst, sym}
use Rattle.std.proofs.lemmas.List.{length-set}
use Rattle.sheet.specs.Cells.{Cell}
use Rattle.sheet.specs.Grid.{IsUsed}
use Rattle.xterm_print.proofs.KeptLemmas.{row_read, row_set_other}
use Rattle.xterm_page.specs.Same.{row_number}
use Rattle.xterm_page.proofs.KeptLemmas.{row_written}
use Rattle.xterm_page.proofs.caught.copy_line.Goals as goal

pub number_of-number-requires : goal.number_of-number-requires
number_of-number-requires c = record {
  used = subst (λ (r : List Cell). IsUsed r c.used-used.result) (sym c.row-cells.ensures.value) c.used-used.ensures;
  number = subst (λ (r : List Cell). IfSome c.args.number (λ n. n ≡ row_number r)) (sym c.row-cells.ensures.value) c.requires.number;
}

pub copy_from-requires : goal.copy_from-requires
copy_from-requires c = record {
  number = c.number_of-number.ensures;
  used = subst (λ (r : List Cell). IsUsed r c.used-used.result) (sym c.row-cells.ensures.value) c.used-used.ensures;
}

pub returns : goal.returns
returns c =
    let rows = c.args.rows.now in
    let line = c.args.line in
    let row = c.copy_from.new.self in
    let low = c.requires.low in
    let high : line ≤ length rows = omega (arith, c.requires.high, c.requires.rows) in
    record {
      whole = length-set rows (line - 1) row;
      copied = λ wide.
          let was = sym (row_read rows line c.index-rows-line.result low high) in
          let fits = ap length was ∙ wide ∙ sym c.row-cells.ensures.columns in
          row_written rows line row low high ∙ c.copy_from.ensures fits ∙ c.row-cells.ensures.value;
      others = λ k here apart. row_set_other rows line k row low here apart;
      wide = ap length (sym c.row-cells.ensures.value) ∙ c.row-cells.ensures.columns;
    }
