use Rattle.std.specs.Prelude.{slice_set}
use Rattle.std.proofs.Common.{◌≡◌, ℕ, ◌≤◌, arith, ap, sym, ◌∙◌, inl, inr}
use Rattle.std.proofs.lemmas.Bool.{cases_eq}
use Rattle.std.proofs.lemmas.List.{length-set}
use Rattle.vt_screen.specs.Cells.{row_at}
use Rattle.vt_screen.specs.Slots.{row_in, slot_at}
use Rattle.vt_screen.proofs.Tables.{nth_is}
use Rattle.screen_rows.proofs.KeptLemmas.{written_here, written_there}
use Rattle.screen_rows.proofs.kept.copy_rows.Goals as goal
use Rattle.screen_rows.proofs.kept.copy_rows.Goals.{then-sources-line-eq0, else-sources-line-eq0}

pub loop-line-preserved : goal.loop-line-preserved
loop-line-preserved c =
    let slots = c.loop-line.slots in
    let line = c.loop-line.line in
    let names = c.args.screen.now.order in
    let rows = c.args.screen.now.picture.rows in
    let kept = c.loop-line.invariant in
    elim c.if-sources-line-eq0.branch [
      | then-sources-line-eq0 w ↦
          let slot = w.place_of-slot.result in
          let row = w.row.result.now in
          let here : row_in (slice_set slots slot row) (slot_at names line) ≡ row_at rows line =
          written_here slots slot (slot_at names line) row (omega (arith, w.place_of-slot.ensures.within, kept.whole)) w.place_of-slot.ensures.value ∙ w.row.ensures.value in
          let each : (k : ℕ) → 1 ≤ k → k ≤ 24 → row_in slots (slot_at names k) ≡ row_at rows k → row_in (slice_set slots slot row) (slot_at names k) ≡ row_at rows k =
          λ k low high was. elim (cases_eq k line) [
            | inl e ↦ ap (λ (l : ℕ). row_in (slice_set slots slot row) (slot_at names l)) e ∙ here ∙ ap (row_at rows) (sym e)
            | inr ne ↦ written_there slots slot (slot_at names k) row
                (λ same. ne (w.place_of-slot.ensures.once.once k line low high (omega arith) (omega arith) (same ∙ w.place_of-slot.ensures.value))) ∙ was
          ] in
          rw w.slots-is (record {
            whole = length-set slots slot row ∙ kept.whole;
            copied = λ k low below. elim (cases_eq k line) [
              | inl e ↦ ap (λ (l : ℕ). row_in (slice_set slots slot row) (slot_at names l)) e ∙ here ∙ ap (row_at rows) (sym e)
              | inr ne ↦ each k low (omega arith) (kept.copied k low (omega arith))
            ];
            known = λ k low high some. each k low high (kept.known k low high some);
          })
      | else-sources-line-eq0 w ↦
          rw w.slots-is (record {
            whole = kept.whole;
            copied = λ k low below. elim (cases_eq k line) [
              | inl e ↦ rw e (kept.known line (omega arith) (omega arith) (omega (arith, nth_is 0 c.args.sources.now line, w.if-sources-line-eq0.false)))
              | inr ne ↦ kept.copied k low (omega arith)
            ];
            known = kept.known;
          })
    ]
