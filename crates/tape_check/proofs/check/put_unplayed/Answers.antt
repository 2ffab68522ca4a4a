use Rattle.std.proofs.Common.{◌≡◌, ℕ, List, [], ◌∷◌, ◌++◌, sym, ap, ◌∙◌, subst}
use Rattle.std.specs.List.{flat_map}
use Rattle.std.specs.Map.Iter.{deref_pair}
use Rattle.std.proofs.lemmas.List.{append-nil, append_assoc}
use Rattle.std.proofs.lemmas.Map.Iter.{rest_more, rest_all}
use Rattle.tape_core.specs.Devices.{Gave}
use Rattle.tape_check.specs.Lines.{unplayed_line}
use Rattle.tape_check.specs.Counting.{plain_entries, entries_of}
use Rattle.tape_check.proofs.NoteLemmas.{line_more}
use Rattle.tape_check.proofs.check.put_unplayed.Goals as goal

pub loop-name-init : goal.loop-name-init
loop-name-init g c = record {
  done = [];
  cut = ap plain_entries (sym (c.into_iter-name-iterator.ensures.into_iter_gives ∙ c.iter-name-items.ensures.rest));
  took = c.gives_join.ensures.nothing _;
}

pub loop-name-preserved : goal.loop-name-preserved
loop-name-preserved g c =
    let l = c.loop-name in
    let done = l.invariant.done in
    let name = c.in-Some.name.now.items in
    let count = c.in-Some.count.now in
    let more = rest_more deref_pair l.name-iterator c.next.new.self c.next.result (c.in-Some.name, c.in-Some.count) c.in-Some.is c.next.ensures.steps in
    let cut : entries_of c.args.counts.now ≡ done ++ (name, count) ∷ plain_entries c.next.new.self
    = l.invariant.cut ∙ ap (λ left. done ++ plain_entries left) more in
    record {
      done = done ++ (name, count) ∷ [];
      cut = cut ∙ sym (append_assoc done ((name, count) ∷ []) (plain_entries c.next.new.self));
      took = subst (λ (t : List ℕ). Gave g.W.Write.contents c.args.writer.now c.put_entry.new.writer t) (sym (line_more done (name, count)))
          (c.gives_join.ensures.both _ _ _ _ _
          (subst (λ (n : List ℕ). Gave g.W.Write.contents l.writer c.put_entry.new.writer (unplayed_line (n, count))) c.as_slice.ensures.value
          c.put_entry.ensures)
          l.invariant.took);
    }

pub returns : goal.returns
returns g c =
    let l = c.loop-name in
    let done = l.invariant.done in
    let none = rest_all deref_pair l.name-iterator c.next.new.self c.next.result c.in-None.is c.next.ensures.steps in
    let whole : entries_of c.args.counts.now ≡ done = l.invariant.cut ∙ ap (λ left. done ++ plain_entries left) none ∙ append-nil done in
    subst (λ entries. Gave g.W.Write.contents c.args.writer.now l.writer (flat_map unplayed_line entries)) (sym whole) l.invariant.took
