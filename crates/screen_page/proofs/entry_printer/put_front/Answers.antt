use Rattle.std.proofs.Common.{◌≡◌, ◌+◌, ◌*◌, ◌++◌, ℕ, Bool, true, false, List, refl, ap, ap₂, subst, ◌∙◌}
use mir.Val.{bool_byte}
use Rattle.vt_screen.specs.Attributes.{bit}
use Rattle.vt_screen.specs.Picture.{Picture}
use Rattle.vt_term.specs.declared.modes.Modes.{Modes}
use Rattle.screen_print.specs.Stills.{still_of}
use Rattle.screen_page.specs.Entries.{entry_of}
use Rattle.screen_page.specs.EntryText.{comma_number, flags}
use Rattle.held.specs.Held.{Wrote}
use Rattle.held.proofs.HeldLemmas.{wrote_both}
use Rattle.screen_page.specs.Parts.{front_text}
use Rattle.screen_page.proofs.entry_printer.put_front.Goals as goal

as_bit : (b : Bool) → bool_byte b ≡ bit b
as_bit true = refl
as_bit false = refl

pub returns : goal.returns
unfolding front_text
returns g c =
    let after = still_of c.args.after.now.console in
    let flagged : c.from.result + 2 * c.from-2.result ≡ flags (entry_of c.args.due after after) =
    ap₂ (λ (w r : ℕ). w + 2 * r) (c.from.ensures ∙ as_bit c.is_wide-wide.result ∙ ap bit (c.is_wide-wide.ensures ∙ ap (λ (p : Picture). p.wide) c.screen.ensures.value))
    (c.from-2.ensures ∙ as_bit c.modes-reversed.result.reverse_screen ∙ ap (λ (m : Modes). bit m.reverse_screen) c.modes-reversed.ensures) in
    let line = c.from-3.ensures ∙ c.cursor-line.ensures.line ∙ ap (λ (p : Picture). p.line) c.screen-2.ensures.value in
    let column = c.from-4.ensures ∙ c.cursor-line.ensures.column ∙ ap (λ (p : Picture). p.column) c.screen-2.ensures.value in
    let more : List ℕ → ℕ → List ℕ = λ text n. text ++ comma_number n in
    subst (Wrote g.W.Write.contents c.args.writer.now c.args.held.now.items c.put_comma_number-3.new.writer c.put_comma_number-3.new.held.items)
    (ap₂ more (ap₂ more (ap₂ more (c.as_bytes.ensures ∙ c.seconds_text.ensures) flagged) line) column)
    (wrote_both c.put_comma_number-3.ensures (wrote_both c.put_comma_number-2.ensures (wrote_both c.put_comma_number.ensures c.put.ensures)))
