use Rattle.std.proofs.Common.{◌≡◌, ◌-◌, ◌<◌, [], length, get_or, sym, arith}
use Rattle.std.proofs.lemmas.List.{get_or_default}
use Rattle.sheet.specs.Held.{row_in, slot_at}
use Rattle.sheet.proofs.Tables.{nth_is}
use Rattle.sheet.proofs.Turns.{filled_more, stay_more}
use Rattle.sheet.proofs.sheet.fill_lines.Goals as goal

pub bounds-slots-slot : goal.bounds-slots-slot
bounds-slots-slot c = omega (arith, nth_is 0 c.args.order.now c.loop-line.line (omega arith), c.requires.once.named c.loop-line.line)

pub loop-line-preserved : goal.loop-line-preserved
loop-line-preserved c =
    let line = c.loop-line.line in
    let order = c.args.order.now in
    let slots = c.loop-line.slots in
    let slot = get_or order (line - 1) 0 in
    let is_slot : slot ≡ slot_at order line = sym (nth_is 0 order line (omega arith)) in
    let below : slot < length slots = omega (arith, is_slot, c.requires.once.named line) in
    let row = get_or slots slot c.index-slots-slot.result in
    let is_row : row ≡ row_in slots slot = get_or_default slots slot c.index-slots-slot.result [] below in
    record {
      lines = filled_more c.args.cell order c.args.slots.now c.requires.once c.args.first line slot slots row c.fill.new.self (omega arith) (omega arith) (omega arith) (omega arith)
          is_slot is_row c.fill.ensures c.loop-line.invariant.lines;
      slots = stay_more c.args.cell order c.args.slots.now c.requires.once slots slot row c.fill.new.self below is_row c.fill.ensures c.loop-line.invariant.slots;
    }
