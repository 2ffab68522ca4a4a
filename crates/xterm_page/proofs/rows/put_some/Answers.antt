use Rattle.std.proofs.Common.{◌≡◌, ◌-◌, ◌≤◌, ◌++◌, [], ◌∷◌, ℕ, List, ap, sym, subst, ◌∙◌, arith, drop, length, take, append-nil}
use Rattle.std.specs.List.{flat_map}
use Rattle.std.proofs.lemmas.List.{drop_more, length-drop, take_rest}
use Rattle.sheet.specs.Cells.{Cell}
use Rattle.screen_page.specs.EntryText.{string_byte}
use Rattle.xterm_rows.specs.Letters.{AreLetters}
use Rattle.xterm_rows.specs.RowText.{printed}
use Rattle.xterm_rows.specs.Runs.{cell_behind}
use Rattle.held.specs.Held.{Wrote}
use Rattle.xterm_page.specs.Plain.{string_of}
use Rattle.xterm_page.proofs.StringLemmas.{letters_go_on}
use Rattle.held.proofs.HeldLemmas.{wrote_held}
use Rattle.xterm_page.proofs.rows.put_some.Goals as goal

pub returns-then-count-gt0 : goal.returns-then-count-gt0
returns-then-count-gt0 g c =
    let cells = c.args.cells.now in
    let at = c.args.at in
    let count = c.hold_letters-count.result in
    let rest : take (length cells - at) (drop at cells) ≡ drop at cells = take_rest cells at in
    let few : count ≤ length (drop at cells) = subst (λ (l : List Cell). count ≤ length l) rest c.hold_letters-count.ensures.few in
    let letters = subst (λ (l : List Cell). AreLetters (cell_behind l 0).rendition l 0 count) rest c.hold_letters-count.ensures.letters in
    record {
      some = omega (arith, c.if-count-gt0.true);
      within = omega (arith, few, length-drop at cells, c.requires);
      none = letters_go_on (cell_behind (drop at cells) 0).rendition cells at count letters;
      wrote = wrote_held c.args.writer.now c.args.held.now.items c.hold_letters-count.new.held.items (string_of (take count (drop at cells)))
          (c.hold_letters-count.ensures.text ∙ ap (λ (l : List Cell). c.args.held.now.items ++ string_of (take count l)) rest);
    }

pub returns : goal.returns
returns g c =
    let cells = c.args.cells.now in
    let at = c.args.at in
    let cell = c.index-cells-at.result in
    let old = c.args.held.now.items in
    let count = c.hold_letters-count.result in
    let zero : count ≡ 0 = omega (arith, c.if-count-gt0.false) in
    let same : c.hold_letters-count.new.held.items ≡ old =
    c.hold_letters-count.ensures.text ∙ ap (λ (n : ℕ). old ++ string_of (take n (take (length cells - at) (drop at cells)))) zero ∙ append-nil old in
    let one : flat_map string_byte (printed cell) ≡ string_of (take 1 (drop at cells)) =
    ap (flat_map string_byte) (sym (append-nil (printed cell)))
    ∙ ap (λ (x : Cell). string_of (x ∷ [])) c.index-cells-at.is
    ∙ ap (λ (l : List Cell). string_of (take 1 l)) (sym (drop_more cells at cell c.requires)) in
    record {
      some = omega arith;
      within = omega (arith, c.requires);
      none = λ k low high. absurd (omega (arith, low, high));
      wrote = subst (λ (x : List ℕ). Wrote g.W.Write.contents c.args.writer.now x c.put_cell.new.writer c.put_cell.new.held.items (string_of (take 1 (drop at cells)))) same
          (subst (Wrote g.W.Write.contents c.args.writer.now c.hold_letters-count.new.held.items c.put_cell.new.writer c.put_cell.new.held.items) one c.put_cell.ensures);
    }
