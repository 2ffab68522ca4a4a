use Rattle.std.proofs.Common.{◌≡◌, ◌+◌, ℕ, List, [], ◌∷◌, ◌++◌, ◌∙◌, subst}
use Rattle.std.specs.Fmt.{decimal}
use Rattle.tape_core.specs.Written.{seconds_form}
use Rattle.held.specs.Held.{Wrote}
use Rattle.held.proofs.HeldLemmas.{wrote_both}
use Rattle.standings.proofs.line.put_heading.Goals as goal

pub returns : goal.returns
returns g c =
    let contents = g.W.Write.contents in
    let m = c.args.moment in
    let front = (c.args.sign ∷ 32 ∷ []) ++ decimal m.index ++ (32 ∷ []) in
    let due = c.as_bytes.result.now in
    let is_due : due ≡ seconds_form m.due = c.as_bytes.ensures ∙ c.requires in
    subst (λ (d : List ℕ). Wrote contents c.args.writer.now c.args.held.now.items c.put_byte-4.new.writer c.put_byte-4.new.held.items
    (front ++ d ++ (32 ∷ []) ++ decimal (c.args.above + 1) ++ (32 ∷ []) ++ decimal c.args.column ++ (32 ∷ []))) is_due
    (wrote_both c.put_byte-4.ensures (wrote_both c.put_number-2.ensures (wrote_both c.put_byte-3.ensures (wrote_both c.put_next.ensures
    (wrote_both c.put_byte-2.ensures (wrote_both c.put-2.ensures (wrote_both c.put_byte.ensures (wrote_both c.put_number.ensures c.put.ensures))))))))
