use Rattle.std.proofs.Common.{◌≡◌, ◌++◌, ◌-◌, List, length, drop, take, refl, sym, ap, inl, inr, ◌∙◌, arith}
use Rattle.std.proofs.lemmas.Bool.{cases_lt}
use Rattle.std.proofs.lemmas.List.{get_or-take, length-append, length-drop, length-take}
use Rattle.sheet.specs.declared.rendition.Colour.TheVariants.{Default}
use Rattle.sheet.specs.Cells.{Cell, blank, cell_at}
use Rattle.sheet.proofs.Rows.{behind_there, front_there}
use Rattle.sheet.proofs.Tables.{is_table, nth_is, table_is}
use Rattle.sheet.proofs.row.copy_used.Goals as goal

pub returns : goal.returns
returns c =
    let row = c.args.cells.now in
    let others = c.args.others.now in
    let used = c.args.used in
    let front = c.copy_from_slice.new.self in
    let is : front ≡ take used others = c.copy_from_slice.ensures.after in
    let long : length front ≡ used = omega (arith, ap length is, length-take used others, c.requires.length, c.requires.within) in
    let len : length (front ++ drop used row) ≡ length others
    = omega (arith, length-append front (drop used row), long, length-drop used row, c.requires.length, c.requires.within) in
    is_table (blank Default) (length others) _ (cell_at others) len (λ k low high.
    elim (cases_lt used k) [
      | inl past ↦ behind_there front row used long k low past ∙ c.requires.same k past
      | inr within ↦ front_there front row used long k low within ∙ ap (λ (xs : List Cell). cell_at xs k) is
          ∙ nth_is (blank Default) (take used others) k low ∙ get_or-take used others (k - 1) (blank Default) (omega arith) ∙ sym (nth_is (blank Default) others k low)
    ])
    ∙ sym (table_is (blank Default) (length others) others refl)
