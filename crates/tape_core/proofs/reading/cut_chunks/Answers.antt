use Rattle.std.proofs.Common.{◌≡◌, ◌+◌, length, Some, Ok, ap, sym, ◌∙◌, arith}
use Rattle.std.proofs.lemmas.Result.{err_from_is_err_and}
use Rattle.std.proofs.lemmas.Bool.{eqb-true}
use Rattle.std.proofs.lemmas.List.{nil_from_length}
use Rattle.tape_core.specs.Timing.{entry_of, fault_of_line}
use Rattle.tape_core.specs.Steps.{FitsAfter}
use Rattle.tape_core.proofs.CutLemmas.{cut_blank, cut_faulty, cut_more, cut_short, is_cut}
use Rattle.tape_core.proofs.reading.cut_chunks.Goals as goal

pub returns-in_err-entry-clause-fault : goal.returns-in_err-entry-clause-fault
returns-in_err-entry-clause-fault c =
    let p = err_from_is_err_and c.from_residual.result c.from_residual.ensures.1 in
    let line = c.first_entry-said.ensures.said in
    rw (p.1, p.2) (λ _.
    cut_faulty c.args.script.now.value.items c.args.start c.args.timing.now c.loop-rest.rest.now c.first_entry-said.result.1.now line.0 c.loop-rest.chunks.items
    c.loop-rest.entries c.loop-rest.bytes c.loop-rest.line c.loop-rest.invariant line.1 _
    (ap (fault_of_line (c.loop-rest.line + 1) c.loop-rest.entries c.loop-rest.bytes) (sym line.2) ∙ c.in_err-entry.ensures.fault))

pub add_chunk-requires : goal.add_chunk-requires
add_chunk-requires c = omega (arith, ap (λ text. length text.items) c.deref.ensures)

pub loop-rest-preserved-in-Continue-branch-3 : goal.loop-rest-preserved-in-Continue-branch-3
loop-rest-preserved-in-Continue-branch-3 c =
    let line = c.first_entry-said.ensures.said in
    let e = c.in-Some.entry in
    let said : entry_of line.0 ≡ Ok (Some e) = sym line.2 ∙ c.in_ok-entry.ensures.ok ∙ ap Ok c.in-Some.is in
    let fits : FitsAfter c.loop-rest.entries c.loop-rest.bytes e = rw c.in-Some.is at c.in_ok-entry.ensures.within in
    rw c.in_ok-add_chunk.ensures
    (cut_more c.args.script.now.value.items c.args.start c.args.timing.now c.loop-rest.rest.now c.first_entry-said.result.1.now line.0 c.loop-rest.chunks.items
    c.loop-rest.entries c.loop-rest.bytes c.loop-rest.line c.loop-rest.invariant line.1 e c.first_entry-said.ensures.shorter said fits (omega (arith, ap (λ text. length text.items) c.deref.ensures)))

pub loop-rest-preserved-else-bytes-room : goal.loop-rest-preserved-else-bytes-room
loop-rest-preserved-else-bytes-room c =
    let line = c.first_entry-said.ensures.said in
    let e = c.in-Some.entry in
    let said : entry_of line.0 ≡ Ok (Some e) = sym line.2 ∙ c.in_ok-entry.ensures.ok ∙ ap Ok c.in-Some.is in
    let fits : FitsAfter c.loop-rest.entries c.loop-rest.bytes e = rw c.in-Some.is at c.in_ok-entry.ensures.within in
    cut_short c.args.script.now.value.items c.args.start c.args.timing.now c.loop-rest.rest.now c.first_entry-said.result.1.now line.0 c.loop-rest.chunks.items
    c.loop-rest.entries c.loop-rest.bytes c.loop-rest.line c.loop-rest.invariant line.1 e c.first_entry-said.ensures.shorter said fits (omega (arith, ap (λ text. length text.items) c.deref.ensures))

pub loop-rest-preserved : goal.loop-rest-preserved
loop-rest-preserved c =
    let line = c.first_entry-said.ensures.said in
    cut_blank c.args.script.now.value.items c.args.start c.args.timing.now c.loop-rest.rest.now c.first_entry-said.result.1.now line.0 c.loop-rest.chunks.items
    c.loop-rest.entries c.loop-rest.bytes c.loop-rest.line c.loop-rest.invariant line.1 c.first_entry-said.ensures.shorter (sym line.2 ∙ c.in_ok-entry.ensures.ok ∙ ap Ok c.in_default.is)

pub returns-clause-ok : goal.returns-clause-ok
returns-clause-ok c =
    is_cut c.args.script.now.value.items c.args.start c.args.timing.now c.loop-rest.rest.now c.loop-rest.chunks.items
    c.loop-rest.entries c.loop-rest.bytes c.loop-rest.line c.loop-rest.invariant (nil_from_length c.loop-rest.rest.now (eqb-true (length c.loop-rest.rest.now) 0 (sym c.loop-rest-test.ensures)))
