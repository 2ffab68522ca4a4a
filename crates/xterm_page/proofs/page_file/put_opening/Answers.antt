use Rattle.std.proofs.Common.{[], ◌∷◌, ◌++◌, ap, append_assoc, subst}
use Rattle.tape_core.specs.Devices.{Gave}
use Rattle.screen_page.specs.Page.{front}
use Rattle.xterm_page.specs.EntryText.{size_text}
use Rattle.xterm_page.specs.Parts.{first_text, opening}
use Rattle.xterm_page.proofs.page_file.put_opening.Goals as goal

pub returns : goal.returns
unfolding opening
returns g c =
    let title = c.args.title.now in
    let size = size_text c.args.size.columns c.args.size.lines in
    let before = c.gives_join.ensures.both _ _ _ _ _ c.give.ensures c.put_front.ensures in
    let told = c.gives_join.ensures.both _ _ _ _ size c.put_size.ensures before in
    subst (Gave g.W.Write.contents c.args.writer.now c.give-2.new.self)
    (ap (λ l. l ++ first_text) (append_assoc (front title) (91 ∷ []) size)
    ) (subst (λ t. Gave g.W.Write.contents c.args.writer.now c.give-2.new.self (((front title ++ 91 ∷ []) ++ size) ++ t)) c.first_text.ensures
    (c.gives_join.ensures.both _ _ _ _ _ c.give-2.ensures told))
