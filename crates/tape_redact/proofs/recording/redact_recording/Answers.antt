use Rattle.std.proofs.Common.{◌≡◌, ◌∙◌, List, ap, arith, drop, if◌then◌else◌, length, subst, sym, ℕ}
use Rattle.std.proofs.lemmas.List.{take_at}
use Rattle.tape_core.specs.Written.{script_text}
use Rattle.tape_redact.proofs.TextLemmas.{lines_without}
use Rattle.tape_redact.specs.Law.{SameLines}
use Rattle.tape_redact.specs.Recording.{can_be_hidden, script_without}
use Rattle.tape_redact.specs.Redacted.{redacted}
use Rattle.tape_redact.proofs.recording.redact_recording.Goals as goal

pub recut-requires : goal.recut-requires
recut-requires c =
    let tape = c.args.recording.now in
    let text = c.args.text.now in
    let old = c.in_ok-script.script.items in
    let new = c.take_out-count.new.script in
    let is : new ≡ script_without text tape =
    c.take_out-count.ensures.script
    ∙ ap (λ (s : List ℕ). if can_be_hidden text then redacted text s else s) (c.deref_mut.ensures.value ∙ c.in_ok-script.ensures) in
    let lines = lines_without text tape in
    let long = ap (λ (l : List ℕ). length l) (is) in
    let whole = take_at new (drop (length new) old) c.in_ok-script.script.len
    (omega (arith, long, lines.long, ap (λ (l : List ℕ). length l) c.in_ok-script.ensures, c.deref_mut.ensures.len, ap (λ (l : List ℕ). length l) c.deref_mut.ensures.value)) in
    subst (SameLines (script_text tape)) (sym (whole ∙ is)) lines
