use Rattle.std.proofs.Common.{◌≡◌, ◌-◌, drop, length, take, ap, sym, ◌∙◌}
use Rattle.std.proofs.lemmas.List.{take_rest}
use Rattle.tape_import.specs.Form.{form_of}
use Rattle.tape_import.proofs.FormLemmas.{ttyrec_by_head}
use Rattle.tape_import.proofs.imported_file.import.Goals as goal

pub import_ttyrec-requires-clause-form : goal.import_ttyrec-requires-clause-form
import_ttyrec-requires-clause-form c =
    let file = c.args.file.now.value.items in
    let start = c.mark_len-start.result in
    let held : take (length c.deref-6.result.now - start) (drop start c.deref-6.result.now) ≡ drop start file =
    ap (λ s. take (length s - start) (drop start s)) (c.deref-6.ensures.value ∙ ap (λ v. v.items) c.deref-5.ensures) ∙ take_rest file start in
    ttyrec_by_head (drop start file) (ap form_of (sym held) ∙ sym c.in_ok-form_of.ensures ∙ c.in-Ttyrec.is)
