use Rattle.std.proofs.Common.{◌≡◌, ◌+◌, ◌-◌, ◌≤◌, ◌∙◌, ℕ, ap, arith, subst, sym, true}
use Rattle.screen_print.specs.ByLine.{AreLost, row_on}
use Rattle.screen_print.specs.FindLines.{ends_line}
use Rattle.screen_print.proofs.LostLemmas.{block_lost}
use Rattle.vt_screen.specs.Cells.{row_at}
use Rattle.screen_print.proofs.lost.push_block.Goals as goal

pub returns-then-line-end-clause-after : goal.returns-then-line-end-clause-after
returns-then-line-end-clause-after c =
    let text = c.args.sought.now.text.now in
    let one = c.args.pair.now.one.now in
    let other = c.args.pair.now.other.now in
    let lost = c.args.lost.now in
    let line = lost.ready in
    let block = c.block_at-block.result in
    let moved = c.block_at-block.ensures.moved in
    let end = c.ended_end-end.result in
    let some = c.if-line-end.true in
    let within = c.ended_end-end.ensures.within some in
    let leads = c.block_at-block.ensures.leads (omega arith) in
    let there = line + block.down - block.up in
    let n = end - line - 1 in
    let last : end - 1 ≡ line + n = omega arith in
    let behind : line + n + 1 ≡ end = omega arith in
    let behind' : there + n + 1 ≡ end + block.down - block.up = omega (arith, leads.1) in
    subst (λ k. AreLost text one k other (end + block.down - block.up) lost.places.items) behind
    (subst (λ k. AreLost text one (line + n + 1) other k lost.places.items) behind'
    (block_lost text one other line there lost.next n lost.places.items c.sound.ensures.whole c.sound-2.ensures.whole c.requires.low (omega (arith, within, moved.high, moved.low))
    (omega (arith, within, moved.high, leads.1)) c.requires.before.there_low (omega (arith, leads.1)) (c.ended_end-end.ensures.wide some)
    (λ i less.
    let at : line + i + block.down - block.up ≡ there + i = omega (arith, leads.1) in
    moved.rows (line + i) (omega (arith, leads.0)) (omega (arith, less, within)) ∙ ap (row_at other.rows) at)
    (ap (λ k. ends_line (row_on one k)) (sym last) ∙ c.ended_end-end.ensures.ends some) c.requires.before))
