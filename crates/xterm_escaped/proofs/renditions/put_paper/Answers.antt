use Rattle.std.proofs.Common.{◌≡◌, ◌++◌, ◌∷◌, [], List, ℕ, true, ap, sym, subst}
use Rattle.tape_core.specs.Devices.{Gave}
use Rattle.vt_parser.specs.Syntax.{escape}
use Rattle.xterm_escaped.specs.EscapedText.{colour_text, is_told, text_where}
use Rattle.xterm_escaped.proofs.renditions.put_paper.Goals as goal

pub returns-then-is_told : goal.returns-then-is_told
returns-then-is_told g c =
    let told : is_told c.args.paper ≡ true = cc in
    let text : List ℕ = escape ∷ 91 ∷ colour_text 40 c.args.paper ++ 109 ∷ [] in
    subst (Gave g.W.Write.contents c.args.writer.now c.give-then-is_told.new.self) (sym (ap (λ b. text_where b text) told))
    (c.gives_join.ensures.both _ _ _ _ _ c.give-then-is_told.ensures
    (c.gives_join.ensures.both _ _ _ _ _ c.put_colour.ensures c.give.ensures))
