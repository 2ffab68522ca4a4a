use Rattle.std.proofs.Common.{◌≡◌, ◌-◌, length, take, drop, ap, sym, refl, ◌∙◌}
use Rattle.std.proofs.lemmas.List.{drop-drop, take_rest}
use Rattle.tape_import.specs.Ttyrec.{data_of, head_len, told_of}
use Rattle.tape_import.proofs.TtyrecLemmas.{take_again}
use Rattle.tape_import.proofs.ttyrec.Reading.take.Goals as goal

pub returns : goal.returns
returns c =
    let file = c.args.file.now.value.items in
    let at = c.args.at in
    let text = drop at file in
    let held : take (length c.deref-2.result.now - at) (drop at c.deref-2.result.now) ≡ text =
    ap (λ s. take (length s - at) (drop at s)) (c.deref-2.ensures.value ∙ ap (λ v. v.items) c.deref.ensures) ∙ take_rest file at in
    let kept : c.data_len-kept.result ≡ length (data_of text) = c.data_len-kept.ensures.len ∙ ap (λ t. length (data_of t)) held in
    let bytes : c.in_ok-bytes.bytes ≡ data_of text =
    c.in_ok-bytes.ensures ∙ ap (λ t. take c.data_len-kept.result t) (sym (drop-drop head_len at file)) ∙ ap (λ n. take n (drop head_len text)) kept
    ∙ take_again (told_of text) (drop head_len text) in
    let told : c.told_of.result ≡ told_of text = c.told_of.ensures.value ∙ ap told_of held in
    rw (c.in_ok-take.ensures.ok, c.pass.ensures, bytes, c.moved.ensures, c.clock_of-clock.ensures, held, c.cut_of-cut.ensures, c.count.ensures, kept, told) refl
