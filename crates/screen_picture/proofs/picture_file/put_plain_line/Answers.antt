use Rattle.std.proofs.Common.{◌≡◌, ◌∷◌, [], ◌++◌, ◌∙◌, ap, subst, sym}
use Rattle.std.specs.List.{flat_map}
use Rattle.tape_core.specs.Devices.{Gave}
use Rattle.vt_screen.specs.Cells.{row_at}
use Rattle.vt_screen.specs.Picture.{margin_of}
use Rattle.screen_rows.specs.RowText.{printed_line}
use Rattle.screen_picture.specs.Letters.{escaped, letter_text}
use Rattle.screen_picture.proofs.PlainLemmas.{line_is}
use Rattle.screen_picture.proofs.picture_file.put_plain_line.Goals as goal

pub returns : goal.returns
returns g c =
    let p = c.args.screen.now.picture in
    let row = c.row.result.now in
    let margin : c.right_margin-margin.result ≡ margin_of p.wide row.size = c.right_margin-margin.ensures.value ∙ ap (λ r. margin_of p.wide r.size) (sym c.row.ensures.value) in
    let letters : c.as_slice.result.now ≡ flat_map letter_text c.trimmed.result.now = c.as_slice.ensures.value ∙ c.letters_of-letters.ensures in
    let is : c.as_slice.result.now ++ 10 ∷ [] ≡ escaped (printed_line p.wide (row_at p.rows c.args.line)) =
    ap (λ t. t ++ 10 ∷ []) (letters ∙ ap (flat_map letter_text) c.trimmed.ensures) ∙ line_is p.wide row c.right_margin-margin.result margin
    ∙ ap (λ r. escaped (printed_line p.wide r)) c.row.ensures.value in
    subst (λ t. Gave g.W.Write.contents c.args.writer.now c.give_all.new.self t) is c.give_all.ensures
