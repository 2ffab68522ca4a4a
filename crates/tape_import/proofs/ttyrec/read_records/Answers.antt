use Rattle.std.proofs.Common.{◌≡◌, ◌+◌, ◌-◌, ◌<◌, length, take, drop, ap, sym, ◌∙◌, arith}
use Rattle.std.proofs.lemmas.List.{drop-drop, length-drop, take_rest}
use Rattle.tape_import.specs.Ttyrec.{data_of, fault_at, head_len}
use Rattle.tape_import.proofs.TtyrecLemmas.{one_more}
use Rattle.tape_import.proofs.ttyrec.read_records.Goals as goal

pub loop-at-preserved : goal.loop-at-preserved
loop-at-preserved c =
    let file = c.args.file.now.value.items in
    let at = c.loop-at.at in
    let read = c.loop-at.read in
    let text = drop at file in
    let held : take (length c.deref-in-loop-at-2.result.now - at) (drop at c.deref-in-loop-at-2.result.now) ≡ text =
    ap (λ s. take (length s - at) (drop at s)) (c.deref-in-loop-at-2.ensures.value ∙ ap (λ v. v.items) c.deref-in-loop-at.ensures) ∙ take_rest file at in
    let len : c.data_len-len.result ≡ length (data_of text) = c.data_len-len.ensures.len ∙ ap (λ t. length (data_of t)) held in
    let some : 0 < length text = omega (arith, length-drop at file, c.data_len-len.ensures.within, ap length held) in
    record {
      within = omega (arith, c.data_len-len.ensures.within, ap length held, length-drop at file, c.loop-at.invariant.within);
      few = omega (arith, ap (λ r. r.count) c.in_ok-take.ensures, c.loop-at.invariant.few);
      same = rw (c.in_ok-take.ensures, len, ← drop-drop (head_len + length (data_of text)) at file)
          (c.loop-at.invariant.same ∙ one_more read text some (ap (fault_at read) (sym held) ∙ sym c.in_default.ensures.fault));
    }
