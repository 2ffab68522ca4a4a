use Rattle.std.proofs.Common.{◌≡◌, ◌+◌, ◌-◌, ◌<◌, ◌∙◌, ap, ap₂, arith, drop, length, set, sym, take}
use Rattle.std.proofs.lemmas.List.{get_or_default, length-set}
use Rattle.standings.specs.Rows.{Row, empty_row, row_below}
use Rattle.standings.specs.Written.{row_written, rows_written}
use Rattle.standings.proofs.NearLemmas.{rows_back}
use Rattle.standings.proofs.left.Standing.write_and_look.Goals as goal

pub returns-then-is_err-clause-refused_rows : goal.returns-then-is_err-clause-refused_rows
returns-then-is_err-clause-refused_rows c =
    let rows = c.args.self.now.rows.items in
    let above = c.args.here.from in
    let before = c.args.before in
    let letters = c.args.letters.now in
    let was = c.in_ok-was.was'.items in
    let one = c.look_again.new.self.rows.items in
    let many : before + length letters - before ≡ length letters = omega arith in
    let line : c.index_mut-line.result.now ≡ row_below rows above =
    c.index_mut-line.ensures.value ∙ sym (get_or_default rows above empty_row c.index_mut-line.result.now c.requires.row) in
    let kept : was ≡ take (length letters) (drop before (row_below rows above).characters) =
    c.in_ok-was.ensures.items ∙ ap (λ n. take n (drop before c.characters.result.now)) many
    ∙ ap (λ l. take (length letters) (drop before l)) (c.characters.ensures ∙ ap (λ (r : Row). r.characters) line) in
    let there : one ≡ rows_written above before letters rows =
    c.look_again.ensures.rows ∙ ap (set rows above) (c.write.ensures ∙ ap (row_written before letters) line) in
    let lt : above < length one = omega (arith, c.requires.row, ap length there, length-set rows above (row_written before letters (row_below rows above))) in
    let line' : c.index_mut-line-then-is_err.result.now ≡ row_below one above =
    c.index_mut-line-then-is_err.ensures.value ∙ sym (get_or_default one above empty_row c.index_mut-line-then-is_err.result.now lt) in
    rows_back above before letters was rows one c.write-then-is_err.new.self c.requires.row c.requires.within kept there
    (c.write-then-is_err.ensures ∙ ap₂ (row_written before) c.as_slice.ensures.value line')
