use Rattle.std.proofs.Common.{◌≡◌, ℕ, ◌-◌, ◌*◌, ◌≤◌, ◌∙◌, List, ap, arith, length, nat_eq, true}
use Rattle.std.specs.List.{starts_with}
use Rattle.std.proofs.lemmas.Bool.{not-false, not-true}
use Rattle.standings.specs.Less.{for_left}
use Rattle.standings.specs.Standing.{count_left}
use Rattle.standings.proofs.LessLemmas.{none_left, some_left}
use Rattle.standings.proofs.less.some_pass_with.Goals as goal

pub returns : goal.returns
returns c =
    let first = c.args.first.now in
    let one = c.args.one.now in
    let other = c.args.other.now in
    let alone = c.args.alone.now in
    let row = c.args.row.now in
    let surplus = c.find_surplus.new.surplus.items in
    let spent = c.take_all_off.new.surplus in
    let off : (left : List ℕ) → starts_with nat_eq row left ≡ true → for_left spent left ≡ for_left surplus left - 18446744073709551615 * count_left first.rows.items first.places.items left = λ left begins.
    c.take_all_off.ensures left begins
    ∙ ap (λ l. for_left l left - 18446744073709551615 * count_left first.rows.items first.places.items left) c.as_mut_slice-counts.ensures.value in
    let fit : length alone.one.items ≤ 18446744073709551615 = omega (arith, alone.one.ok.0, alone.one.ok.1, alone.one.small) in
    record {
      none = λ pairs told n lt begins. none_left row surplus spent one.rows.items other.rows.items first.rows.items one.places.items other.places.items first.places.items alone.one.items alone.other.items 18446744073709551615 n lt
          pairs c.in_ok-find_surplus.ensures.surplus off (λ left. c.is_spent.ensures.none (not-false c.is_spent.result told) (length left)) begins;
      some = λ pairs told.
          let k = c.is_spent.ensures.some (not-true c.is_spent.result told) in
          some_left row surplus spent one.rows.items other.rows.items first.rows.items one.places.items other.places.items first.places.items alone.one.items alone.other.items 18446744073709551615 k.0
          pairs c.in_ok-find_surplus.ensures.surplus off fit (omega (arith, k.1, c.take_all_off.auto.surplus, ap length c.as_mut_slice-counts.ensures.value, c.in_ok-find_surplus.ensures.len)) k.2;
    }
