use Rattle.std.proofs.Common.{◌≡◌, nat_le, ap, ◌∙◌, rules}
use Rattle.std.proofs.lemmas.List.Sorted.{IsPartitionedBy-leb, IsPartitionPoint-from_clause}
use Rattle.std.proofs.lemmas.Bool.{leb-true, leb-false}
use Rattle.tape_core.specs.Due.{due_count}
use Rattle.tape_core.proofs.DueLemmas.{dues_rise, counted}
use Rattle.tape_core.proofs.recording.Recording.due_count.Goals as goal

pub returns-clause-count : goal.returns-clause-count
returns-clause-count c =
    let dues = c.self.inside.dues.items in
    let moment = c.args.moment in
    let are = c.self.invariant.due in
    let given : c.deref.result.now ≡ dues = c.deref.ensures.value in
    let part = rw given at c.partition_point.ensures in
    let point = IsPartitionPoint-from_clause (λ due. nat_le due moment) dues c.partition_point.result part.partitioned
    (IsPartitionedBy-leb (λ due. due) dues moment (dues_rise _ _ are)) (λ a r f h. search rules) in
    let same = ap (λ tape. tape.chunks) c.self.view_is in
    counted _ dues moment c.partition_point.result are part.bound
    (λ k d low high. leb-true _ _ (point.0 k d low high), λ k d low high. leb-false _ _ (point.1 k d low high))
    ∙ ap (λ chunks. due_count chunks moment) same
