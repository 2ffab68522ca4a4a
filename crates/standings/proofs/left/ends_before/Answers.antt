use Rattle.std.proofs.Common.{◌-◌, ◌+◌, ◌<◌, ◌≤◌, ap, arith, inl, inr, length, subst, sym}
use Rattle.std.proofs.lemmas.Bool.{cases_lt}
use Rattle.standings.specs.Kept.{room_in}
use Rattle.standings.specs.Near.{IsOrdered}
use Rattle.standings.specs.Standing.{place_at}
use Rattle.standings.proofs.KeptLemmas.{short_ends}
use Rattle.standings.proofs.PlaceLemmas.{standing_ordered, standing_within}
use Rattle.standings.proofs.left.ends_before.Goals as goal

pub returns : goal.returns
returns c = λ told text is was n lt low.
    let still = c.args.still.now in
    let rows = still.rows.items in
    let places = still.places.items in
    let view = c.as_slice.ensures.value in
    let below = c.count_up_to-below.result in
    elim (cases_lt n below) [
      | inr under ↦
          let late = c.count_up_to-below.ensures.late (subst IsOrdered (sym view) (standing_ordered text rows places was)) n under
          (omega (arith, lt, c.len-all.ensures, still.places.ok.0)) in
          let there = subst (λ l. c.saturating_add.result ≤ (place_at l n).above) view late in
          let few = (standing_within text rows places was).to n lt in
          absurd (omega (arith, there, few, low, c.saturating_add.ensures, still.rows.ok.0))
      | inl over ↦ elim (cases_lt n c.loop-at.at) [
        | inr far ↦ c.loop-at.invariant.ends n far over low
        | inl near ↦
            let last = c.count_ended-ended.result in
            let mine = c.as_slice-2.ensures.value in
            let some : 0 < last = omega (arith, near, c.loop-at-test.false) in
            let fits = short_ends text rows places c.args.above c.args.before last n (omega (arith, is, c.count_ended-ended.ensures.short some)) was
            (omega (arith, c.count_ended-ended.ensures.within, ap length mine)) (omega (arith, near, c.loop-at-test.false))
            (subst (λ l. (place_at l (last - 1)).above < c.args.above) mine (c.count_ended-ended.ensures.above some)) in
            subst (λ m. (place_at places n).before + m ≤ room_in rows c.args.above c.args.before (place_at places n).above) is fits
      ]
    ]
