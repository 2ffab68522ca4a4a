use Rattle.std.proofs.Common.{◌≡◌, ◌-◌, drop, length, take, ap, subst, sym, ◌∙◌, IfOk}
use Rattle.std.proofs.lemmas.List.{take_rest}
use Rattle.tape_import.specs.Imported.{Import, Imports, import_of_ttyrec, ttyrec_facts, ttyrec_losses}
use Rattle.tape_import.specs.declared.facts.Facts.{Facts}
use Rattle.tape_import.specs.declared.losses.Losses.{Losses}
use Rattle.tape_import.specs.declared.ttyrec.Front.{Front}
use Rattle.tape_import.proofs.imported.import_ttyrec.Goals as goal

pub returns : goal.returns
returns c =
    let file = c.args.file.now.value.items in
    let start = c.args.start in
    let text = drop start file in
    let front = c.in_ok-front.front in
    let held : take (length c.deref-2.result.now - start) (drop start c.deref-2.result.now) ≡ text =
    ap (λ s. take (length s - start) (drop start s)) (c.deref-2.ensures.value ∙ ap (λ v. v.items) c.deref.ensures) ∙ take_rest file start in
    let facts : c.facts_of-facts.result ≡ ttyrec_facts text front = c.facts_of-facts.ensures.facts ∙ ap (λ t. ttyrec_facts t front) held in
    let import_by : Facts → Losses → Import = λ told lost. record { facts = told; chunks = front.read.outputs.chunks; losses = lost } in
    let read_as : Front → Import = λ read. record { facts = ttyrec_facts text read; chunks = read.read.outputs.chunks; losses = ttyrec_losses read } in
    let same : import_by c.facts_of-facts.result c.losses_of-losses.result ≡ import_of_ttyrec text =
    ap (λ told. import_by told c.losses_of-losses.result) facts ∙ ap (import_by (ttyrec_facts text front)) c.losses_of-losses.ensures ∙ ap read_as (sym c.in_ok-front.ensures) in
    subst (λ what. IfOk c.imported_of.result (λ imported. Imports what imported.recording imported.losses)) same c.imported_of.ensures
