use Rattle.std.proofs.Common.{◌≡◌, ◌≤◌, ◌++◌, ◌∙◌, ap, sym, subst, arith, true, false, encode_utf8, length, take, get_or, append-nil, append_assoc}
use Rattle.std.specs.List.{flat_map}
use Rattle.std.proofs.lemmas.List.Concat.{flat_map-append}
use Rattle.held.specs.Held.{Wrote}
use Rattle.sheet.specs.Cells.{is_covered}
use Rattle.screen_page.specs.EntryText.{string_byte}
use Rattle.xterm_rows.proofs.TextLemmas.{printed_covered, printed_open}
use Rattle.xterm_page.proofs.StringLemmas.{text_more}
use Rattle.held.proofs.HeldLemmas.{wrote_both, wrote_none}
use Rattle.xterm_page.proofs.rows.put_cell.Goals as goal

pub returns-then-is_covered : goal.returns-then-is_covered
returns-then-is_covered g c =
    let covered : is_covered c.args.cell ≡ true = cc in
    subst (λ t. Wrote g.W.Write.contents c.args.writer.now c.args.held.now.items c.args.writer.now c.args.held.now.items (flat_map string_byte t)) (printed_covered c.args.cell covered)
    (wrote_none c.args.writer.now c.args.held.now.items)

pub loop-n-init : goal.loop-n-init
loop-n-init g c =
    let first = flat_map string_byte (encode_utf8 c.args.cell.character) in
    subst (Wrote g.W.Write.contents c.args.writer.now c.args.held.now.items c.put_character.new.writer c.put_character.new.held.items)
    (ap (λ x. flat_map string_byte (encode_utf8 x)) c.character.ensures ∙ sym (append-nil first)) c.put_character.ensures

pub loop-n-preserved : goal.loop-n-preserved
loop-n-preserved g c =
    let marks = c.args.cell.marks in
    let n = c.loop-n.n in
    let first = flat_map string_byte (encode_utf8 c.args.cell.character) in
    let told = flat_map string_byte (flat_map encode_utf8 (take n marks)) in
    subst (Wrote g.W.Write.contents c.args.writer.now c.args.held.now.items c.put_character-in-loop-n.new.writer c.put_character-in-loop-n.new.held.items)
    (ap (λ x. (first ++ told) ++ flat_map string_byte (encode_utf8 x)) c.mark.ensures
    ∙ append_assoc first told (flat_map string_byte (encode_utf8 (get_or marks n 0)))
    ∙ ap (λ t. first ++ t) (sym (text_more encode_utf8 marks n 0 (omega (arith, c.mark_count-n-end.ensures.value, c.loop-n-test.true)))))
    (wrote_both c.put_character-in-loop-n.ensures c.loop-n.invariant)

pub returns : goal.returns
returns g c =
    let bare : is_covered c.args.cell ≡ false = cc in
    let marks = c.args.cell.marks in
    let all : length marks ≤ c.loop-n.n = omega (arith, c.mark_count-n-end.ensures.value, c.loop-n-test.false) in
    subst (Wrote g.W.Write.contents c.args.writer.now c.args.held.now.items c.loop-n.writer c.loop-n.held.items)
    (sym (flat_map-append string_byte (encode_utf8 c.args.cell.character) (flat_map encode_utf8 (take c.loop-n.n marks)))
    ∙ ap (flat_map string_byte) (printed_open c.args.cell c.loop-n.n bare all))
    c.loop-n.invariant
