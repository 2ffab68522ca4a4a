use Rattle.std.proofs.Common.{◌≡◌, ◌-◌, ◌<◌, ◌≤◌, ◌++◌, ◌∙◌, ap, arith, get_or, length, set, sym}
use Rattle.std.proofs.lemmas.List.{get_or-append_right, get_or_append_left, length-set, set-append_left}
use Rattle.sheet.specs.Grid.{row_at}
use Rattle.xterm_print.proofs.KeptLemmas.{row_read, row_set_other}
use Rattle.xterm_page.proofs.KeptLemmas.{row_written}
use Rattle.xterm_page.proofs.caught.copy_row.Goals as goal

pub returns : goal.returns
returns c =
    let rows = c.args.rows.now in
    let line = c.args.line in
    let other = c.args.other in
    let cut = c.split_at_mut-front in
    let front = cut.result.0.now in
    let back = cut.result.1.now in
    let row = c.copy_row.new.self in
    let own = c.index-front-line.result in
    let source = c.index-back-0.result in
    let low = c.requires.low in
    let high : line ≤ length rows = omega (arith, c.requires.below, c.requires.high) in
    let inside : line - 1 < length front = omega (arith, cut.ensures.front_len, low, c.requires.below) in
    let first : 1 ≤ other = omega (arith, low, c.requires.below) in
    let none : other - 1 - (other - 1) ≡ 0 = omega arith in
    let all : set front (line - 1) row ++ back ≡ set rows (line - 1) row =
    sym (set-append_left front back (line - 1) row inside) ∙ ap (λ l. set l (line - 1) row) (sym cut.ensures.value) in
    let was : row_at rows line ≡ get_or front (line - 1) own =
    row_read rows line own low high ∙ ap (λ l. get_or l (line - 1) own) cut.ensures.value
    ∙ get_or_append_left front back own (line - 1) inside in
    let there : row_at rows other ≡ get_or back 0 source =
    row_read rows other source first c.requires.high ∙ ap (λ l. get_or l (other - 1) source) cut.ensures.value
    ∙ get_or-append_right front back (other - 1) (other - 1) source cut.ensures.front_len (omega arith)
    ∙ ap (λ n. get_or back n source) none in
    record {
      whole = ap length all ∙ length-set rows (line - 1) row;
      copied = λ same. ap (λ l. row_at l line) all ∙ row_written rows line row low high
          ∙ c.copy_row.ensures (ap length (sym was) ∙ same ∙ ap length there) ∙ sym there;
      others = λ k here apart. ap (λ l. row_at l k) all ∙ row_set_other rows line k row low here apart;
    }
