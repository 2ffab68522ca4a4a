use Rattle.std.proofs.Common.{◌≡◌, ◌-◌, ◌∷◌, [], ℕ, ap, ap₂, append_assoc, drop, length, subst, ◌∙◌, take}
use Rattle.std.specs.List.{flat_map}
use Rattle.std.proofs.lemmas.List.{get_or_default}
use Rattle.sheet.specs.declared.rendition.Colour.TheVariants.{Default}
use Rattle.sheet.specs.Cells.{Cell, blank}
use Rattle.held.specs.Held.{Wrote}
use Rattle.screen_page.specs.EntryText.{string_byte}
use Rattle.xterm_rows.specs.Groups.{group_end}
use Rattle.xterm_rows.specs.Ink.{colour_number}
use Rattle.xterm_rows.specs.RowText.{printed}
use Rattle.xterm_rows.specs.Runs.{begins, cell_behind, kind_number, kind_of, run_at}
use Rattle.xterm_page.specs.Entries.{shown_run}
use Rattle.xterm_page.specs.EntryText.{numbers_text, run_text}
use Rattle.xterm_page.proofs.StringLemmas.{run_parts}
use Rattle.held.proofs.HeldLemmas.{wrote_both}
use Rattle.xterm_page.proofs.rows.put_run.Goals as goal

pub returns-clause-wrote : goal.returns-clause-wrote
unfolding run_text shown_run run_at kind_of
returns-clause-wrote g c =
    let cells = c.args.cells.now in
    let at = c.args.at in
    let cell = c.index-cells-at.result in
    let behind : cell ≡ cell_behind cells at = c.index-cells-at.is ∙ get_or_default cells at cell (blank Default) c.requires in
    let first = cell_behind cells at in
    let told = c.kind_numbers-kind.ensures in
    let ink = colour_number first.rendition.ink in
    let paper = colour_number first.rendition.paper in
    let kind_is = told.kind ∙ ap (λ (x : Cell). kind_number (kind_of x)) behind in
    let ink_is = told.ink ∙ ap (λ (x : Cell). colour_number x.rendition.ink) behind in
    let paper_is = told.paper ∙ ap (λ (x : Cell). colour_number x.rendition.paper) behind in
    let parts = numbers_text (kind_number (kind_of first)) ink paper in
    let numbers = subst (Wrote g.W.Write.contents c.args.writer.now c.args.held.now.items c.put_numbers.new.writer c.put_numbers.new.held.items)
    (ap (λ (n : ℕ). numbers_text n c.kind_numbers-kind.result.1 c.kind_numbers-kind.result.2) kind_is
    ∙ ap₂ (λ (n m : ℕ). numbers_text (kind_number (kind_of first)) n m) ink_is paper_is) c.put_numbers.ensures in
    let opened = subst (Wrote g.W.Write.contents c.args.writer.now c.args.held.now.items c.put_byte-2.new.writer c.put_byte-2.new.held.items)
    (append_assoc parts (44 ∷ []) (34 ∷ [])) (wrote_both c.put_byte-2.ensures (wrote_both c.put_byte.ensures numbers)) in
    let end = group_end (begins cells) at (length cells) in
    let characters = flat_map string_byte (flat_map printed (take (end - at) (drop at cells))) in
    let written = subst (λ (n : ℕ). Wrote g.W.Write.contents c.put_byte-2.new.writer c.put_byte-2.new.held.items c.put_characters-end.new.writer c.put_characters-end.new.held.items
    (flat_map string_byte (flat_map printed (take (n - at) (drop at cells))))) c.put_characters-end.ensures.end c.put_characters-end.ensures.wrote in
    subst (Wrote g.W.Write.contents c.args.writer.now c.args.held.now.items c.put_byte-3.new.writer c.put_byte-3.new.held.items) (run_parts parts characters)
    (wrote_both c.put_byte-3.ensures (wrote_both written opened))
