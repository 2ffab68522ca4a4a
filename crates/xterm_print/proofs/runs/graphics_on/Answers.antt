use Rattle.std.proofs.Common.{◌≡◌, ◌+◌, ◌-◌, ◌<◌, ◌≤◌, ◌++◌, ◌∷◌, ◌∙◌, ap, arith, drop, length, List, ℕ, subst, sym, take}
use Rattle.std.specs.Prelude.{Some, slice_index_or}
use Rattle.std.proofs.lemmas.List.{length-drop, take_all}
use Rattle.sheet.specs.Cells.{Cell}
use Rattle.xterm_rows.specs.Runs.{cell_behind}
use Rattle.xterm_term.specs.Ahead.{Letters, letters_from, styling_behind}
use Rattle.xterm_term.specs.declared.sets.CharacterSet.TheVariants.{Ascii}
use Rattle.xterm_print.specs.Pieces.{AreApart, GoOver, IsPlain}
use Rattle.xterm_print.proofs.PutLemmas.{over_behind}
use Rattle.xterm_print.proofs.StylingLemmas.{graphics_front}
use Rattle.xterm_print.proofs.runs.graphics_on.Goals as goal

-- what they are
they : (c : goal.After-put_graphics)
    → (styling_behind Ascii Letters (take c.put_graphics.result c.args.bytes.now) ≡ Some Letters)
    × (letters_from Ascii Letters (take c.put_graphics.result c.args.bytes.now) ≡ take c.put_graphics.result c.args.bytes.now)
they c = graphics_front c.widths_are_small.ensures.ascii c.args.bytes.now c.put_graphics.result c.put_graphics.ensures.within c.put_graphics.ensures.graphic

pub returns-clause-over : goal.returns-clause-over
returns-clause-over c =
    let text = c.args.text.now in
    let cells = c.args.cells.now in
    let bytes = c.args.bytes.now in
    let were = c.args.letters.now.items in
    let count = c.put_graphics.result in
    let many : c.len-from.result ≡ length were = omega (arith, c.len-from.ensures.value) in
    let some : 0 < length were = omega (arith, many, c.if-from-eq0.false) in
    let last = c.last_of-last.result in
    let ends : last ≡ slice_index_or were (length were - 1) 0 =
    c.last_of-last.ensures ∙ ap (λ l. slice_index_or l (length l - 1) 0) c.as_slice.ensures.value in
    let from = c.len-from.result in
    let all : take (length cells - from) (drop from cells) ≡ drop from cells = take_all (length cells - from) (drop from cells) (omega (arith, length-drop from cells)) in
    let there : take (length cells - from) (drop from cells) ≡ drop (length were) cells = all ∙ ap (λ n. drop n cells) many in
    let room : length were + count ≤ length cells =
    omega (arith, c.put_graphics.ensures.room, ap length there, length-drop (length were) cells, c.requires.over.room) in
    subst (λ l. GoOver text cells l) (sym c.put_graphics.ensures.put)
    (over_behind text cells were bytes last count c.requires.over some ends c.put_graphics.ensures.within room
    (subst (λ (l : List Cell). (k : ℕ) → k < count → IsPlain (cell_behind l k)) there c.put_graphics.ensures.plain)
    (subst (λ (l : List Cell). (k : ℕ) → k < count → AreApart text (slice_index_or (last ∷ bytes) k 0) (cell_behind l k).character) there
    (c.put_graphics.ensures.apart text c.make.ensures)))

pub returns-clause-styled : goal.returns-clause-styled
returns-clause-styled c =
    subst (λ set. styling_behind set Letters (take c.put_graphics.result c.args.bytes.now) ≡ Some Letters) (sym c.in-Ascii.is) (they c).0

pub returns-clause-more : goal.returns-clause-more
returns-clause-more c =
    c.put_graphics.ensures.put
    ∙ ap (λ l. c.args.letters.now.items ++ l)
    (sym (ap (λ set. letters_from set Letters (take c.put_graphics.result c.args.bytes.now)) c.in-Ascii.is ∙ (they c).1))
