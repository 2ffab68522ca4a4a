use Rattle.std.proofs.Common.{◌≡◌, ◌∷◌, List, ℕ, true, ap, sym, subst}
use Rattle.tape_core.specs.Devices.{Gave}
use Rattle.xterm_escaped.specs.EscapedText.{colour_text, is_told, text_where}
use Rattle.xterm_escaped.proofs.renditions.put_ink.Goals as goal

pub returns-then-is_told : goal.returns-then-is_told
returns-then-is_told g c =
    let told : is_told c.args.ink ≡ true = cc in
    let text : List ℕ = 59 ∷ colour_text 30 c.args.ink in
    subst (Gave g.W.Write.contents c.args.writer.now c.put_colour.new.writer) (sym (ap (λ b. text_where b text) told))
    (c.gives_join.ensures.both _ _ _ _ _ c.put_colour.ensures c.give.ensures)
