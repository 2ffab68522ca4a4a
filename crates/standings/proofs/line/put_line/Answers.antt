use Rattle.std.proofs.Common.{ℕ, List, [], ◌∷◌, ◌+◌, ◌++◌, encode_utf8, subst}
use Rattle.std.specs.List.{flat_map}
use Rattle.held.specs.Held.{Wrote}
use Rattle.held.proofs.HeldLemmas.{gave_all, wrote_both}
use Rattle.standings.specs.Found.{column_of, heading}
use Rattle.standings.proofs.line.put_line.Goals as goal

pub returns : goal.returns
returns g c =
    let m = c.args.moment in
    let place = c.args.place in
    let contents = g.W.Write.contents in
    let head = heading c.args.sign m.index m.due (place.above + 1) (column_of c.args.rows.now place) in
    let text = flat_map encode_utf8 c.args.text.now in
    let joins = c.gives_join.ensures in
    let first = subst (λ n. Wrote contents c.args.writer.now c.new-held.result.items c.put_heading.new.writer c.put_heading.new.held.items (heading c.args.sign m.index m.due (place.above + 1) n)) c.column_below-column.ensures c.put_heading.ensures in
    let all = wrote_both c.put_byte.ensures (wrote_both c.put_chars.ensures first) in
    let opened = subst (λ (x : List ℕ). Wrote contents c.args.writer.now x c.put_byte.new.writer c.put_byte.new.held.items ((head ++ text) ++ 10 ∷ [])) c.new-held.ensures all in
    gave_all joins.both joins.nothing _ _ _ _ _ opened c.let_out.ensures.gave
