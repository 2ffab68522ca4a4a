use Rattle.std.proofs.Common.{◌≡◌, ◌++◌, ◌∙◌, List, ℕ, ap, append_assoc, codes, subst, sym}
use Rattle.tape_core.specs.Devices.{Gave}
use Rattle.screen_picture.specs.Picture.{style_text}
use Rattle.screen_picture.proofs.picture_file.put_style.Goals as goal

pub returns : goal.returns
returns g c =
    let opens : List ℕ = codes "</desc><style>" in
    let closes : List ℕ = codes "</style>\n" in
    let text : opens ++ (c.style.result.now ++ closes) ≡ style_text =
    sym (append_assoc opens c.style.result.now closes) ∙ ap (λ t. (opens ++ t) ++ closes) c.style.ensures in
    subst (λ t. Gave g.W.Write.contents c.args.writer.now c.give_all.new.self t) text c.give_all.ensures
