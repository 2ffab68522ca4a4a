use Rattle.std.proofs.Common.{◌≡◌, ℕ, ◌+◌, ◌-◌, ◌<◌, ◌≤◌, ◌∙◌, ◌&&◌, ◌||◌, ap, ap₂, arith, drop, false, get_or, inl, inr, length, nat_eq, refl, subst, sym, take, true}
use Rattle.std.specs.List.{starts_with}
use Rattle.std.proofs.lemmas.Bool.{cases_Bool, le-leb}
use Rattle.std.proofs.lemmas.List.{get_or-drop, get_or-take, get_or_default, length-drop, length-take, take_at}
use Rattle.standings.specs.Less.{for_left, is_away, is_last, is_wanted}
use Rattle.standings.specs.Rows.{row_below}
use Rattle.standings.specs.Standing.{count_left, is_less, left_of, place_at, place_in}
use Rattle.standings.specs.declared.place.Place.{Place}
use Rattle.standings.proofs.LeftLemmas.{own_front}
use Rattle.standings.proofs.LessLemmas.{last_is_wanted, right_told, whole_told}
use Rattle.standings.proofs.SurplusLemmas.{own_begin}
use Rattle.standings.proofs.less.tell_row.Goals as goal

pub returns-then-is_fresh-clause-right : goal.returns-then-is_fresh-clause-right
returns-then-is_fresh-clause-right c = λ pairs n lt was holds. elim (cases_Bool (get_or c.args.told.now n false)) [
  | inl t ↦ was t
  | inr f ↦
      let one = c.args.one.now in
      let other = c.args.other.now in
      let places = one.places.items in
      let row = c.characters_below-row.result.now in
      let above = c.index.result.now.above in
      let before = c.least_before-before.result in
      let fresh = c.if-is_fresh.true in
      let place = place_at places n in
      let left = left_of one.rows.items place in
      let only = subst (λ l. ((place_at l n).above ≡ above) × (before ≤ (place_at l n).before)) c.as_slice-then-is_fresh.ensures.value (c.tell_behind.ensures.only n holds f) in
      let line : row ≡ (row_below one.rows.items above).characters =
      c.characters_below-row.ensures ∙ ap (λ rows. (row_below rows above).characters) c.as_slice.ensures.value in
      let same : left ≡ take place.before row =
      ap (λ k. take place.before (row_below one.rows.items k).characters) only.0 ∙ ap (take place.before) (sym line) in
      let begins : starts_with nat_eq row left ≡ true = subst (λ l. starts_with nat_eq row l ≡ true) (sym same) (own_front row place.before) in
      let high : before ≤ length left = omega (arith, ap length same, length-take place.before row, only.1, c.is_fresh.ensures.within fresh) in
      let zero = c.is_fresh.ensures.other fresh left begins high in
      let less : is_less one.rows.items places other.rows.items other.places.items n ≡ true =
      le-leb (count_left other.rows.items other.places.items left) (count_left one.rows.items (take n places) left) (omega (arith, zero)) in
      ap₂ (λ a b. a && b) (c.is_fresh.ensures.away fresh left begins high) less
]

pub returns-then-is_fresh-clause-whole : goal.returns-then-is_fresh-clause-whole
returns-then-is_fresh-clause-whole c = λ pairs n b lt is least wanted.
    let one = c.args.one.now in
    let places = one.places.items in
    let alone = c.args.alone.now in
    let row = c.characters_below-row.result.now in
    let above = c.index.result.now.above in
    let before = c.least_before-before.result in
    let from = c.args.from in
    let to = c.args.to in
    let fresh = c.if-is_fresh.true in
    let left = left_of one.rows.items (place_at places n) in
    let mine = c.as_slice-2.result.now in
    let first : place_at alone.one.items from ≡ c.index.result.now =
    get_or_default alone.one.items from (place_in 0 0) c.index.result.now (omega (arith, c.requires.some, c.requires.within)) ∙ sym c.index.ensures in
    let line : row ≡ (row_below one.rows.items (place_at alone.one.items from).above).characters =
    c.characters_below-row.ensures ∙ ap₂ (λ rows (p : Place). (row_below rows p.above).characters) c.as_slice.ensures.value (sym first) in
    let all : (k : ℕ) → from ≤ k → k < to → before ≤ (place_at alone.one.items k).before = λ k low high.
    let i = k - from in
    let at : from + i ≡ k = omega arith in
    let here : place_at (take (to - from) (drop from mine)) i ≡ place_at alone.one.items k =
    get_or-take (to - from) (drop from mine) i (place_in 0 0) (omega arith) ∙ get_or-drop from mine i (place_in 0 0) ∙ ap₂ (λ l m. place_at l m) c.as_slice-2.ensures.value at in
    subst (λ (p : Place). before ≤ p.before) here (c.least_before-before.ensures i
    (omega (arith, length-take (to - from) (drop from mine), length-drop from mine, ap length c.as_slice-2.ensures.value, c.requires.within))) in
    let same : left ≡ take b row = is ∙ ap (take b) (sym line) in
    let begins : starts_with nat_eq row left ≡ true = subst (λ l. starts_with nat_eq row l ≡ true) (sym same) (own_front row b) in
    let within = c.is_fresh.ensures.within fresh in
    let high : before ≤ length left = omega (arith, ap length same, length-take b row, within, least before all) in
    let own = own_begin row one.rows.items (place_at places n) above before left (omega (arith, length-take before row, within, c.is_fresh.ensures.some fresh))
    (c.is_fresh.ensures.own fresh) begins high refl in
    subst (λ l. n < length l → (place_at l n).above ≡ above → before ≤ (place_at l n).before → get_or c.tell_behind.new.told n false ≡ true)
    c.as_slice-then-is_fresh.ensures.value (c.tell_behind.ensures.told n) lt own.0 own.1

pub returns-clause-right : goal.returns-clause-right
returns-clause-right c = λ pairs n lt before holds.
    let one = c.args.one.now in
    let other = c.args.other.now in
    let places = one.places.items in
    let alone = c.args.alone.now in
    let row = c.characters_below-row.result.now in
    let surplus = c.find_surplus.new.surplus.items in
    let spent = c.spend.new.surplus in
    let was = c.args.told.now in
    let told = c.tell_last.new.told in
    let all : length spent ≡ c.find_surplus.new.surplus.len = omega (arith, c.spend.auto.surplus, c.as_mut_slice.ensures.len) in
    let held : c.as_mut_slice-2.result.now ≡ spent =
    c.as_mut_slice-2.ensures.value ∙ take_at spent (drop (length spent) surplus) c.find_surplus.new.surplus.len all in
    let is : get_or told n false ≡ (get_or was n false || is_last row one.rows.items places spent n) =
    c.tell_last.ensures n lt ∙ ap (λ s. get_or was n false || is_last row one.rows.items places s n) held in
    let last = last_is_wanted row surplus spent (is_away c.args.ends) one.rows.items other.rows.items places other.places.items alone.one.items alone.other.items n lt
    pairs c.in_ok-find_surplus.ensures.surplus (λ left begins away. c.spend.ensures.away left begins away ∙ ap (λ l. for_left l left) c.as_mut_slice.ensures.value) c.spend.ensures.spent in
    right_told row spent one.rows.items places (get_or told n false) (get_or was n false)
    (is_wanted c.args.ends one.rows.items places other.rows.items other.places.items n) n last is before holds

pub returns-clause-whole : goal.returns-clause-whole
returns-clause-whole c = λ pairs n b lt same least wanted.
    let one = c.args.one.now in
    let other = c.args.other.now in
    let places = one.places.items in
    let alone = c.args.alone.now in
    let row = c.characters_below-row.result.now in
    let surplus = c.find_surplus.new.surplus.items in
    let spent = c.spend.new.surplus in
    let was = c.args.told.now in
    let told = c.tell_last.new.told in
    let from = c.args.from in
    let all : length spent ≡ c.find_surplus.new.surplus.len = omega (arith, c.spend.auto.surplus, c.as_mut_slice.ensures.len) in
    let held : c.as_mut_slice-2.result.now ≡ spent =
    c.as_mut_slice-2.ensures.value ∙ take_at spent (drop (length spent) surplus) c.find_surplus.new.surplus.len all in
    let is : get_or told n false ≡ (get_or was n false || is_last row one.rows.items places spent n) =
    c.tell_last.ensures n lt ∙ ap (λ s. get_or was n false || is_last row one.rows.items places s n) held in
    let last = last_is_wanted row surplus spent (is_away c.args.ends) one.rows.items other.rows.items places other.places.items alone.one.items alone.other.items n lt
    pairs c.in_ok-find_surplus.ensures.surplus (λ left begins away. c.spend.ensures.away left begins away ∙ ap (λ l. for_left l left) c.as_mut_slice.ensures.value) c.spend.ensures.spent in
    let first : place_at alone.one.items from ≡ c.index.result.now =
    get_or_default alone.one.items from (place_in 0 0) c.index.result.now (omega (arith, c.requires.some, c.requires.within)) ∙ sym c.index.ensures in
    let line : row ≡ (row_below one.rows.items (place_at alone.one.items from).above).characters =
    c.characters_below-row.ensures ∙ ap₂ (λ rows (p : Place). (row_below rows p.above).characters) c.as_slice.ensures.value (sym first) in
    let begins : starts_with nat_eq row (left_of one.rows.items (place_at places n)) ≡ true =
    subst (λ l. starts_with nat_eq row l ≡ true) (sym (same ∙ ap (take b) (sym line))) (own_front row b) in
    whole_told row spent one.rows.items places (get_or told n false) (get_or was n false)
    (is_wanted c.args.ends one.rows.items places other.rows.items other.places.items n) n last is begins wanted
