use Rattle.std.proofs.Common.{◌≡◌, ◌∷◌, [], sym, arith, ◌∙◌, false}
use Rattle.std.specs.Prelude.{Result, Ok, Err, OnOk, None, is_err}
use Rattle.std.proofs.lemmas.Bool.{true≢false}
use Rattle.std.proofs.lemmas.List.Elements.{All-append, All-cons}
use Rattle.tape_seek.specs.Edits.{CanBeLogged, edit_fault}
use Rattle.tape_seek.proofs.EditLemmas.{has_short_numbers}
use Rattle.tape_seek.proofs.session.Session.apply.Goals as goal

on_ok : {T E P : Type 0} (r : Result T E) → is_err r ≡ false → OnOk r P → P
on_ok (Ok value) e h = h
on_ok (Err error) e h = absurd (true≢false e)

pub invariant_of-self-2 : goal.invariant_of-self-2
invariant_of-self-2 g c =
    let tape = c.self.inside.recording in
    let edit = c.args.edit in
    let sound : edit_fault tape edit ≡ None = sym c.in_default.ensures in
    let edited_now = on_ok c.grow.result (sym c.is_err.ensures.value ∙ c.if-is_err.false) c.grow.ensures.ok in
    let inv = c.self.invariant in
    let can : CanBeLogged edit = record { numbers = has_short_numbers tape edit inv.fitting.few sound; bytes = c.brings_bytes.ensures } in
    record {
      fitting = c.grow.ensures.fitting inv.fitting;
      log = rw (c.push_reserved.ensures.items, c.grow.ensures.log) (All-append CanBeLogged c.self.inside.log.items (edit ∷ []) inv.log (All-cons CanBeLogged edit [] can (λ k d lt. absurd (omega arith))));
      replay = rw edited_now (c.cut.ensures.replay tape inv.replay sound);
    }
