use Rattle.std.proofs.Common.{◌≡◌, ◌+◌, ◌*◌, ◌++◌, ℕ, Bool, true, false, List, [], not, refl, ap, ap₂, subst, ◌∙◌}
use mir.Val.{bool_byte}
use Rattle.screen_page.specs.EntryText.{comma_number}
use Rattle.xterm_rows.specs.Ink.{bit}
use Rattle.xterm_screen.specs.Picture.{Picture}
use Rattle.xterm_term.specs.declared.modes.Modes.{Modes}
use Rattle.xterm_page.specs.Entries.{entry_of}
use Rattle.xterm_page.specs.EntryText.{entry_front, flags}
use Rattle.held.specs.Held.{Wrote}
use Rattle.xterm_page.specs.Parts.{front_text}
use Rattle.held.proofs.HeldLemmas.{wrote_both}
use Rattle.xterm_page.proofs.entry_printer.put_front.Goals as goal

as_bit : (b : Bool) → bool_byte b ≡ bit b
as_bit true = refl
as_bit false = refl

pub returns : goal.returns
unfolding front_text entry_front
returns g c =
    let after = c.args.after.now.console in
    let flagged : 2 * c.from.result + 4 * c.from-2.result ≡ flags (entry_of c.args.due [] after) =
    ap₂ (λ (r h : ℕ). 2 * r + 4 * h) (c.from.ensures ∙ as_bit c.modes-modes.result.reverse_screen ∙ ap (λ (m : Modes). bit m.reverse_screen) c.modes-modes.ensures)
    (c.from-2.ensures ∙ as_bit (not c.modes-modes.result.cursor_shown) ∙ ap (λ (m : Modes). bit (not m.cursor_shown)) c.modes-modes.ensures) in
    let line = c.from-3.ensures ∙ c.cursor-line.ensures.line ∙ ap (λ (p : Picture). p.line) c.screen.ensures.value in
    let column = c.from-4.ensures ∙ c.cursor-line.ensures.column ∙ ap (λ (p : Picture). p.column) c.screen.ensures.value in
    let more : List ℕ → ℕ → List ℕ = λ text n. text ++ comma_number n in
    subst (Wrote g.W.Write.contents c.args.writer.now c.args.held.now.items c.put_comma_number-3.new.writer c.put_comma_number-3.new.held.items)
    (ap₂ more (ap₂ more (ap₂ more (c.as_bytes.ensures ∙ c.seconds_text.ensures) flagged) line) column)
    (wrote_both c.put_comma_number-3.ensures (wrote_both c.put_comma_number-2.ensures (wrote_both c.put_comma_number.ensures c.put.ensures)))
