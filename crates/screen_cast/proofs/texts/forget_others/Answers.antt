use Rattle.std.proofs.Common.{◌≢◌, ◌-◌, ℕ, ◌≤◌, None, arith, get_or, get_or-set_other, subst, sym, ◌∙◌, inl, inr}
use Rattle.std.proofs.lemmas.Bool.{cases_eq}
use Rattle.vt_screen.specs.Cells.{row_at}
use Rattle.vt_screen.specs.Slots.{slot_at}
use Rattle.vt_screen.proofs.Tables.{nth_is}
use Rattle.screen_rows.specs.KeptRows.{IsFrom}
use Rattle.screen_cast.specs.Texts.{IsText}
use Rattle.screen_cast.proofs.TextLemmas.{forgotten, text_from}
use Rattle.screen_cast.proofs.texts.forget_others.Goals as goal
use Rattle.screen_cast.proofs.texts.forget_others.Goals.{then-is_other, else-is_other}

pub loop-line-preserved : goal.loop-line-preserved
loop-line-preserved c =
    let texts = c.loop-line.texts in
    let line = c.loop-line.line in
    let names = c.args.screen.now.order in
    let rows = c.args.screen.now.picture.rows in
    let kept = c.loop-line.invariant in
    elim c.if-is_other.branch [
      | then-is_other w ↦
          let slot = w.place_of.result in
          let here = forgotten c.args.reversed (row_at rows line) texts slot (slot_at names line) w.place_of.ensures.value in
          let apart : (k : ℕ) → 1 ≤ k → k ≤ 24 → k ≢ line → slot_at names k ≢ slot = λ k low high ne same.
          ne (w.place_of.ensures.once.once k line low high (omega arith) (omega arith) (same ∙ w.place_of.ensures.value)) in
          rw (w.texts-is ∙ w.forget_at.ensures) (record {
            done = λ k low below. elim (cases_eq k line) [
              | inl e ↦ rw e here
              | inr ne ↦ subst (IsText c.args.reversed (row_at rows k)) (sym (get_or-set_other texts slot (slot_at names k) None None (apart k low (omega arith) ne)))
                  (kept.done k low (omega arith))
            ];
            still = λ k low high.
                get_or-set_other texts slot (slot_at names k) None None (apart k (omega arith) high (λ same. absurd (omega (arith, same, low)))) ∙ kept.still k (omega arith) high;
          })
      | else-is_other w ↦
          let source = get_or c.args.sources.now (line - 1) 0 in
          let from = subst (IsFrom c.args.shown.now.kept c.args.screen.now line) (nth_is 0 c.args.sources.now line) (c.requires.sources line (omega arith) (omega arith)) in
          let own = text_from c.args.shown.now.kept c.args.screen.now c.args.texts.now c.args.shown.now.still.reversed c.args.reversed line source c.requires.texts from
          (c.is_other.ensures.source w.if-is_other.false) (c.is_other.ensures.reversed w.if-is_other.false) in
          rw w.texts-is (record {
            done = λ k low below. elim (cases_eq k line) [
              | inl e ↦ rw e (subst (IsText c.args.reversed (row_at rows line)) (sym (kept.still line (omega arith) (omega arith))) own)
              | inr ne ↦ kept.done k low (omega arith)
            ];
            still = λ k low high. kept.still k (omega arith) high;
          })
    ]
