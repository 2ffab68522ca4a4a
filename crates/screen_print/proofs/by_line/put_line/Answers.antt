use Rattle.std.proofs.Common.{◌≡◌, ◌+◌, ◌-◌, ◌++◌, ◌∙◌, [], ap, arith, cond, inl, inr, length, subst, sym, true}
use Rattle.std.specs.List.{flat_map}
use Rattle.std.proofs.lemmas.Bool.{cases_lt}
use Rattle.tape_core.specs.Devices.{Gave}
use Rattle.screen_print.specs.ByLine.{AreLost, begins_on, place_line, places_above, places_to, row_on, stands_at_no_end}
use Rattle.screen_print.specs.FindLines.{found_line, place_in}
use Rattle.screen_print.proofs.ByLineLemmas.{apart_is_no_less, column_next, not_kept, quiet_behind}
use Rattle.screen_print.proofs.by_line.put_line.Goals as goal

pub returns-then-near-last : goal.returns-then-near-last
returns-then-near-last g c =
    let text = c.args.sought.now.text.now in
    let one = c.args.pair.now.one.now in
    let other = c.args.pair.now.other.now in
    let chunk = c.args.chunk.now in
    let line = c.args.line in
    let row = row_on one line in
    let write = found_line c.args.sign chunk.index chunk.due chunk.len one in
    let keep = stands_at_no_end text c.args.ends in
    let above = places_above text one line in
    let f = place_line text one other write keep above in
    let reach = c.reach-near.ensures in
    let lost = subst (AreLost text one (line + 1) other c.args.lost.now.next) (sym c.as_slice.ensures.value) c.requires.lost in
    subst (Gave g.W.Write.contents c.args.writer.now c.args.writer.now)
    (sym (quiet_behind text one line 0 (length row) f (omega arith)
    (λ column low high begins.
    apart_is_no_less text one other write keep line c.args.lost.now.next column c.as_slice.result.now c.sound.ensures.whole c.requires.low c.requires.lost.there_low c.requires.lost.there_high (omega arith) high begins
    lost (elim (cases_lt column c.reach-near.result.0) [
      | inl lt ↦ reach.before column (omega arith) lt high
      | inr ge ↦ reach.behind column (omega arith) high
    ]))))
    (c.gives_join.ensures.nothing c.args.writer.now)

pub returns-then-first-last : goal.returns-then-first-last
returns-then-first-last g c =
    let text = c.args.sought.now.text.now in
    let one = c.args.pair.now.one.now in
    let other = c.args.pair.now.other.now in
    let chunk = c.args.chunk.now in
    let line = c.args.line in
    let row = row_on one line in
    let write = found_line c.args.sign chunk.index chunk.due chunk.len one in
    let keep = stands_at_no_end text c.args.ends in
    let above = places_above text one line in
    let f = place_line text one other write keep above in
    let reach = c.reach-near.ensures in
    let told = c.first_told-first.ensures in
    let lost = subst (AreLost text one (line + 1) other c.args.lost.now.next) (sym c.as_slice.ensures.value) c.requires.lost in
    subst (Gave g.W.Write.contents c.args.writer.now c.args.writer.now)
    (sym (quiet_behind text one line 0 (length row) f (omega arith)
    (λ column low high begins. elim (cases_lt column c.reach-near.result.0) [
      | inl lt ↦ apart_is_no_less text one other write keep line c.args.lost.now.next column c.as_slice.result.now c.sound.ensures.whole c.requires.low c.requires.lost.there_low c.requires.lost.there_high (omega arith) high begins
          lost (reach.before column (omega arith) lt high)
      | inr ge ↦ elim (cases_lt column c.first_told-first.result) [
        | inl lt ↦ sym (not_kept text one other write keep above (place_in line column) (told.before column ge lt begins))
        | inr behind ↦ apart_is_no_less text one other write keep line c.args.lost.now.next column c.as_slice.result.now c.sound.ensures.whole c.requires.low c.requires.lost.there_low c.requires.lost.there_high (omega arith) high begins
            lost (reach.behind column (omega arith) high)
      ]
    ])))
    (c.gives_join.ensures.nothing c.args.writer.now)

pub loop-column-init : goal.loop-column-init
loop-column-init g c =
    let text = c.args.sought.now.text.now in
    let one = c.args.pair.now.one.now in
    let other = c.args.pair.now.other.now in
    let chunk = c.args.chunk.now in
    let line = c.args.line in
    let row = row_on one line in
    let write = found_line c.args.sign chunk.index chunk.due chunk.len one in
    let keep = stands_at_no_end text c.args.ends in
    let above = places_above text one line in
    let f = place_line text one other write keep above in
    let reach = c.reach-near.ensures in
    let told = c.first_told-first.ensures in
    let first = c.first_told-first.result in
    let lost = subst (AreLost text one (line + 1) other c.args.lost.now.next) (sym c.as_slice.ensures.value) c.requires.lost in
    record {
      low = omega (arith, reach.first, told.from);
      within = told.within;
      begins = told.begins;
      alone = told.alone;
      fronts = c.none-fronts.ensures one line other (omega arith);
      gave = subst (Gave g.W.Write.contents c.args.writer.now c.args.writer.now)
          (sym (quiet_behind text one line 0 (first - 1) f (omega arith)
          (λ column low high begins. elim (cases_lt column c.reach-near.result.0) [
            | inl lt ↦ apart_is_no_less text one other write keep line c.args.lost.now.next column c.as_slice.result.now c.sound.ensures.whole c.requires.low c.requires.lost.there_low c.requires.lost.there_high (omega arith) (omega (arith, high, told.within, reach.last)) begins
                lost (reach.before column (omega arith) lt (omega (arith, high, told.within, reach.last)))
            | inr ge ↦ sym (not_kept text one other write keep above (place_in line column) (told.before column ge (omega arith) begins))
          ])))
          (c.gives_join.ensures.nothing c.args.writer.now);
    }

pub loop-column-preserved : goal.loop-column-preserved
loop-column-preserved g c =
    let text = c.args.sought.now.text.now in
    let one = c.args.pair.now.one.now in
    let other = c.args.pair.now.other.now in
    let chunk = c.args.chunk.now in
    let line = c.args.line in
    let row = row_on one line in
    let write = found_line c.args.sign chunk.index chunk.due chunk.len one in
    let keep = stands_at_no_end text c.args.ends in
    let above = places_above text one line in
    let f = place_line text one other write keep above in
    let column = c.loop-column.column in
    let kept = c.loop-column.invariant in
    let told = c.first_told-column.ensures in
    let next = c.first_told-column.result in
    let begins : begins_on text one line column ≡ true = kept.begins (omega arith) in
    let here : flat_map f (places_to text one line (column - 1)) ++ f (place_in line column) ≡ flat_map f (places_to text one line (column + 1 - 1)) =
    ap (λ b. flat_map f (places_to text one line (column - 1)) ++ cond b (f (place_in line column)) []) (sym begins) ∙ column_next text one line column f kept.low in
    let behind : flat_map f (places_to text one line (next - 1)) ≡ flat_map f (places_to text one line (column + 1 - 1)) =
    quiet_behind text one line (column + 1 - 1) (next - 1) f (omega (arith, told.from))
    (λ k low high stands. sym (not_kept text one other write keep above (place_in line k) (told.before k (omega arith) (omega arith) stands))) in
    record {
      low = omega (arith, told.from);
      within = told.within;
      begins = told.begins;
      alone = told.alone;
      fronts = c.put_if_less.ensures.fronts;
      gave = subst (Gave g.W.Write.contents c.args.writer.now c.put_if_less.new.writer) (here ∙ sym behind)
          (c.gives_join.ensures.both _ _ _ _ _ (c.put_if_less.ensures.gave keep (kept.alone (omega arith))) kept.gave);
    }

pub returns : goal.returns
returns g c =
    let text = c.args.sought.now.text.now in
    let one = c.args.pair.now.one.now in
    let other = c.args.pair.now.other.now in
    let chunk = c.args.chunk.now in
    let line = c.args.line in
    let row = row_on one line in
    let write = found_line c.args.sign chunk.index chunk.due chunk.len one in
    let keep = stands_at_no_end text c.args.ends in
    let above = places_above text one line in
    let f = place_line text one other write keep above in
    let reach = c.reach-near.ensures in
    let kept = c.loop-column.invariant in
    let lost = subst (AreLost text one (line + 1) other c.args.lost.now.next) (sym c.as_slice.ensures.value) c.requires.lost in
    subst (Gave g.W.Write.contents c.args.writer.now c.loop-column.writer)
    (sym (quiet_behind text one line (c.loop-column.column - 1) (length row) f (omega (arith, kept.within, reach.last))
    (λ column low high begins.
    apart_is_no_less text one other write keep line c.args.lost.now.next column c.as_slice.result.now c.sound.ensures.whole c.requires.low c.requires.lost.there_low c.requires.lost.there_high (omega arith) high begins
    lost (reach.behind column (omega arith) high))))
    kept.gave
