use Rattle.std.proofs.Common.{[], ◌∷◌, ◌++◌, append_assoc, encode_utf8, subst, sym}
use Rattle.std.specs.List.{flat_map}
use Rattle.tape_core.specs.Devices.{Gave}
use Rattle.screen_print.specs.FindLines.{found_rows, heading}
use Rattle.screen_print.proofs.find_lines.put_found.Goals as goal

pub returns : goal.returns
returns g c =
    let head = heading c.args.sign c.args.chunk.now.index c.args.chunk.now.due c.args.place in
    let rows = flat_map encode_utf8 (found_rows c.args.chunk.now.len c.args.still.now c.args.place) in
    subst (λ t. Gave g.W.Write.contents c.args.writer.now c.put_rows.new.writer t) (sym (append_assoc head rows (10 ∷ [])))
    (c.gives_join.ensures.both _ _ _ head (rows ++ 10 ∷ []) c.put_rows.ensures c.put_heading.ensures)
