use Rattle.std.proofs.Common.{ℕ, ◌∙◌, length, sym, ap, subst, arith}
use Rattle.sheet.specs.EditOf.{Fits, edited}
use Rattle.sheet.specs.Halves.{Whole}
use Rattle.sheet.specs.View.{held_of}
use Rattle.sheet.proofs.Wholes.{whole_edited, length_edited}
use Rattle.sheet.proofs.Index.{inside, slot_below, row_read, row_whole, row_length, row_columns, rows_changed, sound_changed, told_changed}
use Rattle.sheet.proofs.sheet.Sheet.edit.Goals as goal

pub index-requires : goal.index-requires
index-requires c = omega (arith, inside (held_of c.self.inside) _ c.self.invariant c.self.view_is c.args.line c.requires.line_low c.requires.line_high, c.self.inside.order.ok.0)

pub index_mut-row-requires : goal.index_mut-row-requires
index_mut-row-requires c = omega (arith, slot_below (held_of c.self.inside) _ c.self.invariant c.self.view_is c.args.line c.requires.line_low c.requires.line_high _ c.index.ensures, c.self.inside.slots.ok.0)

pub index_mut-requires : goal.index_mut-requires
index_mut-requires c = omega (arith, inside (held_of c.self.inside) _ c.self.invariant c.self.view_is c.args.line c.requires.line_low c.requires.line_high, c.self.invariant.origins, c.self.inside.origins.ok.0)

pub edit-requires-clause-whole : goal.edit-requires-clause-whole
edit-requires-clause-whole c = row_whole (held_of c.self.inside) _ c.self.invariant c.self.view_is c.args.line c.requires.line_low c.requires.line_high _ c.index.ensures _ c.index_mut-row.ensures.value

pub edit-requires-clause-bound : goal.edit-requires-clause-bound
edit-requires-clause-bound c = omega (arith, row_length (held_of c.self.inside) _ c.self.invariant c.self.view_is c.args.line c.requires.line_low c.requires.line_high _ c.index.ensures _ c.index_mut-row.ensures.value, c.self.invariant.columns_high)

pub edit-requires-clause-fits : goal.edit-requires-clause-fits
edit-requires-clause-fits c = subst (λ (columns : ℕ). Fits columns c.args.edit) (sym (row_columns (held_of c.self.inside) _ c.self.invariant c.self.view_is c.args.line c.requires.line_low c.requires.line_high _ c.index.ensures _ c.index_mut-row.ensures.value)) c.requires.fits

pub invariant_of-self : goal.invariant_of-self
invariant_of-self c =
    let row = c.index_mut-row.result.now in
    sound_changed (held_of c.self.inside) _ c.self.invariant c.self.view_is c.args.line c.requires.line_low c.requires.line_high _ c.index.ensures c.edit.new.self
    (subst Whole (sym c.edit.ensures) (whole_edited c.args.edit row (row_whole (held_of c.self.inside) _ c.self.invariant c.self.view_is c.args.line c.requires.line_low c.requires.line_high _ c.index.ensures row c.index_mut-row.ensures.value)))
    (ap length c.edit.ensures ∙ length_edited c.args.edit row ∙ row_length (held_of c.self.inside) _ c.self.invariant c.self.view_is c.args.line c.requires.line_low c.requires.line_high _ c.index.ensures row c.index_mut-row.ensures.value)

pub returns-clause-rows : goal.returns-clause-rows
returns-clause-rows c =
    rows_changed (held_of c.self.inside) _ c.self.invariant c.self.view_is c.args.line c.requires.line_low c.requires.line_high _ c.index.ensures c.edit.new.self _
    (c.edit.ensures ∙ ap (edited c.args.edit) (row_read (held_of c.self.inside) _ c.self.invariant c.self.view_is c.args.line c.requires.line_low c.requires.line_high _ c.index.ensures _ c.index_mut-row.ensures.value))

pub returns-clause-told : goal.returns-clause-told
returns-clause-told c = told_changed (held_of c.self.inside) _ c.self.invariant c.self.view_is c.args.line c.requires.line_low c.requires.line_high _ c.index.ensures c.edit.new.self
