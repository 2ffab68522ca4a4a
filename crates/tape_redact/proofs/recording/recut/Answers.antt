use Rattle.std.proofs.Common.{◌≡◌, ◌+◌, ◌-◌, ◌∙◌, List, IfOk, ap, arith, drop, length, subst, sym, take, ℕ}
use Rattle.std.specs.Vec.{vec_len}
use Rattle.tape_core.specs.Tape.{body_len}
use Rattle.tape_core.specs.Written.{script_text}
use Rattle.tape_core.specs.declared.chunk.Chunk.{Chunk}
use Rattle.tape_redact.proofs.ReadLemmas.{ends_within, fits_again, same_parts, script_is, trailer_cut}
use Rattle.tape_redact.specs.Recording.{cut}
use Rattle.tape_core.specs.Tape.{Tape, fits}
use Rattle.tape_redact.proofs.recording.recut.Goals as goal

pub part_of-requires : goal.part_of-requires
part_of-requires c =
    let tape = c.args.recording.now in
    let held = ap (λ text. length text.items) c.in_ok-script.ensures in
    let head = ap (λ (l : List ℕ). length l) c.header-start.ensures in
    omega (arith, held, head, ends_within (script_text tape) c.args.script.items tape c.requires (script_is tape))

pub cut-requires : goal.cut-requires
cut-requires c =
    let tape = c.args.recording.now in
    let held = ap (λ text. length text.items) c.in_ok-script.ensures in
    let head = ap (λ (l : List ℕ). length l) c.header-start.ensures in
    let count = ap (λ (l : List Chunk). body_len l) c.chunks.ensures.chunks in
    omega (arith, held, head, count, ends_within (script_text tape) c.args.script.items tape c.requires (script_is tape))

pub overflow_sub-len : goal.overflow_sub-len
overflow_sub-len c =
    let tape = c.args.recording.now in
    let long = c.len.ensures ∙ ap vec_len (c.deref.ensures ∙ c.in_ok-script.ensures) in
    let head = ap (λ (l : List ℕ). length l) c.header-start.ensures in
    omega (arith, long, head, c.body_len.ensures.sum, ends_within (script_text tape) c.args.script.items tape c.requires (script_is tape))

pub part_of-requires-2 : goal.part_of-requires-2
part_of-requires-2 c =
    let tape = c.args.recording.now in
    let long = c.len.ensures ∙ ap vec_len (c.deref.ensures ∙ c.in_ok-script.ensures) in
    let held = ap (λ text. length text.items) c.in_ok-script.ensures in
    let head = ap (λ (l : List ℕ). length l) c.header-start.ensures in
    omega (arith, long, held, head, c.body_len.ensures.sum, ends_within (script_text tape) c.args.script.items tape c.requires (script_is tape))

pub from_parts-requires : goal.from_parts-requires
from_parts-requires c =
    let tape = c.args.recording.now in
    let script = c.args.script.items in
    let held : c.in_ok-script.script.value.items ≡ script = ap (λ text. text.items) c.in_ok-script.ensures in
    let start = length c.header-start.result.now in
    let head : start ≡ length tape.header = ap (λ (l : List ℕ). length l) c.header-start.ensures in
    let long : c.len.result ≡ length script = omega (arith, c.len.ensures ∙ ap vec_len (c.deref.ensures ∙ c.in_ok-script.ensures)) in
    let header = c.in_ok-header.ensures ∙ ap (λ (l : List ℕ). take start l) held ∙ ap (λ n. take n script) head in
    let chunks = c.in_ok-chunks.ensures ∙ ap (λ (l : List ℕ). cut c.chunks.result.now (drop start l)) held
    ∙ ap (λ (l : List Chunk). cut l (drop start script)) c.chunks.ensures.chunks ∙ ap (λ n. cut tape.chunks (drop n script)) head in
    let trailer = c.in_ok-trailer.ensures
    ∙ ap (λ (l : List ℕ). take (c.len.result - (start + c.body_len.result)) (drop (start + c.body_len.result) l)) held
    ∙ trailer_cut tape script start c.body_len.result c.len.result head c.body_len.ensures.sum long in
    subst fits (sym (same_parts tape script _ _ _ header chunks trailer))
    (fits_again (script_text tape) script tape c.requires (script_is tape) c.chunks.ensures.fitting)

pub returns : goal.returns
returns c =
    let tape = c.args.recording.now in
    let script = c.args.script.items in
    let held : c.in_ok-script.script.value.items ≡ script = ap (λ text. text.items) c.in_ok-script.ensures in
    let start = length c.header-start.result.now in
    let head : start ≡ length tape.header = ap (λ (l : List ℕ). length l) c.header-start.ensures in
    let long : c.len.result ≡ length script = omega (arith, c.len.ensures ∙ ap vec_len (c.deref.ensures ∙ c.in_ok-script.ensures)) in
    let header = c.in_ok-header.ensures ∙ ap (λ (l : List ℕ). take start l) held ∙ ap (λ n. take n script) head in
    let chunks = c.in_ok-chunks.ensures ∙ ap (λ (l : List ℕ). cut c.chunks.result.now (drop start l)) held
    ∙ ap (λ (l : List Chunk). cut l (drop start script)) c.chunks.ensures.chunks ∙ ap (λ n. cut tape.chunks (drop n script)) head in
    let trailer = c.in_ok-trailer.ensures
    ∙ ap (λ (l : List ℕ). take (c.len.result - (start + c.body_len.result)) (drop (start + c.body_len.result) l)) held
    ∙ trailer_cut tape script start c.body_len.result c.len.result head c.body_len.ensures.sum long in
    subst (λ (t : Tape). IfOk c.from_parts.result (λ made. made ≡ t)) (same_parts tape script _ _ _ header chunks trailer) c.from_parts.ensures
