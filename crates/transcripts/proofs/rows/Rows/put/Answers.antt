use Rattle.std.proofs.Common.{[], ◌∷◌, subst, sym, ap, ◌∙◌, arith}
use Rattle.std.specs.Prelude.{replicate}
use Rattle.std.proofs.lemmas.Bool.Decides.{nat_tests}
use Rattle.std.proofs.lemmas.List.{nil_from_length}
use Rattle.held.specs.Held.{Wrote}
use Rattle.held.proofs.HeldLemmas.{wrote_both}
use Rattle.transcripts.specs.Told.{Back, Tells}
use Rattle.transcripts.proofs.ToldLemmas.{tells_blank, tells_text}
use Rattle.transcripts.proofs.rows.Rows.put.Goals as goal

pub returns-then-is_empty-clause-tells : goal.returns-then-is_empty-clause-tells
returns-then-is_empty-clause-tells g c =
    subst (λ text. Tells g.W.Write.contents c.args.writer.now c.args.self.now c.args.writer.now c.put_blank.new.self (text ∷ []))
    (sym (nil_from_length c.args.text.now (grind (arith, nat_tests))))
    (tells_blank c.args.writer.now c.args.self.now c.put_blank.new.self c.put_blank.ensures.held c.in_ok-put_blank.ensures.ok)

pub returns-clause-tells : goal.returns-clause-tells
returns-clause-tells g c =
    let contents = g.W.Write.contents in
    let opened = subst (λ held. Wrote contents c.args.writer.now c.args.self.now.held c.begin.new.writer held (replicate c.args.self.now.blank 10))
    (sym (ap (λ (b : Back). b.held) c.self.view_is)) c.begin.ensures.lines in
    tells_text {contents = contents} c.args.writer.now c.put_byte.new.writer c.args.self.now
    (record { held = c.put_byte.new.held.items; blank = c.self.inside.blank }) c.args.text.now (grind (arith, nat_tests))
    (ap (λ (b : Back). b.blank) c.self.view_is ∙ c.begin.ensures.none) (wrote_both (wrote_both c.put_byte.ensures c.put.ensures) opened)
