use Rattle.std.proofs.Common.{◌-◌, ◌∙◌, List, ℕ, ap, ap₂, arith, drop, length, take}
use Rattle.xterm_page.specs.Parts.{come_text}
use Rattle.xterm_page.proofs.ComeLemmas.{part_between, place_within, places_apart}
use Rattle.xterm_page.proofs.moved.with_next.Goals as goal

pub slice_bounds-result-count : goal.slice_bounds-result-count
slice_bounds-result-count c =
    omega (arith, places_apart c.args.from c.args.end c.requires.low c.requires.apart c.requires.high, c.place_of.ensures, c.place_of-2.ensures)

pub slice_bounds-result-start : goal.slice_bounds-result-start
slice_bounds-result-start c =
    omega (arith, places_apart c.args.from c.args.end c.requires.low c.requires.apart c.requires.high, c.place_of.ensures, c.place_of-2.ensures)

pub slice_bounds-result-end : goal.slice_bounds-result-end
slice_bounds-result-end c =
    let all = ap length c.all_with_next.ensures in
    omega (arith, place_within c.args.from c.args.end c.requires.low c.requires.apart c.requires.high, c.place_of-2.ensures, all)

pub returns : goal.returns
returns c =
    let first = length (come_text 1 c.args.from 1) in
    let past = length (come_text 1 c.args.end 1) in
    ap₂ (λ p q. take (q - p) (drop p c.all_with_next.result.now)) c.place_of.ensures c.place_of-2.ensures
    ∙ ap (λ (l : List ℕ). take (past - first) (drop first l)) c.all_with_next.ensures
    ∙ part_between c.args.from c.args.end c.requires.low c.requires.apart c.requires.high
