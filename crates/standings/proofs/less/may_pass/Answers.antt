use Rattle.std.proofs.Common.{ap, arith}
use Rattle.std.proofs.lemmas.Bool.{false≢true}
use Rattle.standings.specs.Standing.{count_left, left_of, place_at}
use Rattle.standings.proofs.LessLemmas.{none_gone}
use Rattle.standings.proofs.less.may_pass.Goals as goal

pub returns-then-all_stand : goal.returns-then-all_stand
returns-then-all_stand c = λ pairs.
    let first = c.args.first.now in
    let one = c.args.one.now in
    let other = c.args.other.now in
    let alone = c.args.alone.now in
    record {
      none = λ _ n lt.
          let left = left_of one.rows.items (place_at one.places.items n) in
          none_gone one.rows.items other.rows.items first.rows.items one.places.items other.places.items first.places.items alone.one.items alone.other.items n lt pairs
          (omega (arith, c.all_stand.ensures c.if-all_stand.true left, ap (λ l. count_left one.rows.items l left) c.as_slice.ensures.value));
      some = λ t. absurd (false≢true t);
    }
