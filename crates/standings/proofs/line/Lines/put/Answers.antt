use Rattle.std.proofs.Common.{◌≡◌, ℕ, List, [], ◌∷◌, ◌+◌, ◌≤◌, ◌++◌, ◌∙◌, ap, arith, drop, encode_utf8, length, subst, sym, take}
use Rattle.std.specs.Fmt.{decimal}
use Rattle.std.specs.List.{flat_map}
use Rattle.tape_core.specs.Devices.{Gave}
use Rattle.standings.specs.Found.{column_of, found_rows, heading, rows_reaching, unspaced}
use Rattle.standings.specs.Lines.{front_spelled}
use Rattle.standings.specs.Rows.{row_below}
use Rattle.standings.specs.declared.line.Moment.{Moment}
use Rattle.standings.proofs.RowLemmas.{reaching_one}
use Rattle.standings.proofs.line.Lines.put.Goals as goal

pub returns-then-not-know-clause-gave : goal.returns-then-not-know-clause-gave
returns-then-not-know-clause-gave g c =
    let contents = g.W.Write.contents in
    let m = c.args.self.now.moment in
    let place = c.args.place in
    let rows = c.args.rows.now in
    let row = c.characters_below-row.result.now in
    let below = c.characters_below-row.ensures in
    let fits : place.before + m.len ≤ length (row_below rows place.above).characters = omega (arith, c.ends_within.ensures c.if-not-ends_within.false, ap length below) in
    let whole : rows_reaching (place.before + m.len) (drop place.above rows) ≡ row = reaching_one rows place.above (place.before + m.len) fits ∙ sym below in
    let text : take c.unspaced_len-count.result row ≡ found_rows m.len rows place =
    ap (λ n. take n row) (omega (arith, c.unspaced_len-count.ensures)) ∙ ap unspaced (sym whole) in
    subst (λ t. Gave contents c.args.writer.now c.put_line.new.writer
    (heading c.args.sign m.index m.due (place.above + 1) (column_of rows place) ++ flat_map encode_utf8 t ++ 10 ∷ [])) text
    (subst (λ (k : Moment). Gave contents c.args.writer.now c.put_line.new.writer
    (heading c.args.sign k.index k.due (place.above + 1) (column_of rows place) ++ flat_map encode_utf8 (take c.unspaced_len-count.result row) ++ 10 ∷ [])) c.know.ensures.moment
    c.put_line.ensures)

pub returns-clause-gave : goal.returns-clause-gave
returns-clause-gave g c =
    let contents = g.W.Write.contents in
    let m = c.args.self.now.moment in
    let place = c.args.place in
    let rows = c.args.rows.now in
    let below = c.characters_below-row.ensures in
    let fits : place.before + m.len ≤ length (row_below rows place.above).characters = omega (arith, c.ends_within.ensures c.if-not-ends_within.false, ap length below) in
    let whole : rows_reaching (place.before + m.len) (drop place.above rows) ≡ (row_below rows place.above).characters = reaching_one rows place.above (place.before + m.len) fits in
    let text : c.as_slice-2.result.now ≡ flat_map encode_utf8 (found_rows m.len rows place) =
    c.as_slice-2.ensures.value ∙ c.know.ensures.text c.if-not-know.false ∙ ap (λ l. flat_map encode_utf8 (unspaced l)) (sym whole) in
    let front : c.as_slice.result.now ≡ front_spelled m place.above = c.as_slice.ensures.value ∙ c.know.ensures.front c.if-not-know.false in
    subst (λ (t : List ℕ). Gave contents c.args.writer.now c.put_spelled.new.writer
    (heading c.args.sign m.index m.due (place.above + 1) (column_of rows place) ++ t ++ 10 ∷ [])) text
    (subst (λ n. Gave contents c.args.writer.now c.put_spelled.new.writer
    (heading c.args.sign m.index m.due (place.above + 1) n ++ c.as_slice-2.result.now ++ 10 ∷ [])) c.column_below.ensures
    (subst (λ (f : List ℕ). Gave contents c.args.writer.now c.put_spelled.new.writer
    ((c.args.sign ∷ []) ++ f ++ decimal c.column_below.result ++ (32 ∷ []) ++ c.as_slice-2.result.now ++ 10 ∷ [])) front
    c.put_spelled.ensures.gave))
