use Rattle.std.proofs.Common.{ℕ, List, [], ◌∷◌, ◌++◌, subst}
use Rattle.std.specs.Fmt.{decimal}
use Rattle.held.specs.Held.{Wrote}
use Rattle.held.proofs.HeldLemmas.{gave_all, wrote_both}
use Rattle.standings.proofs.line.put_spelled.Goals as goal

pub returns-clause-gave : goal.returns-clause-gave
returns-clause-gave g c =
    let contents = g.W.Write.contents in
    let head = (c.args.sign ∷ []) ++ c.args.front.now ++ decimal c.args.column ++ (32 ∷ []) in
    let joins = c.gives_join.ensures in
    let all = wrote_both c.put_byte-3.ensures (wrote_both c.put-2.ensures (wrote_both c.put_byte-2.ensures (wrote_both c.put_number.ensures (wrote_both c.put.ensures c.put_byte.ensures)))) in
    let opened = subst (λ (x : List ℕ). Wrote contents c.args.writer.now x c.put_byte-3.new.writer c.put_byte-3.new.held.items ((head ++ c.args.text.now) ++ 10 ∷ [])) c.requires all in
    gave_all joins.both joins.nothing _ _ _ _ _ opened c.let_out.ensures.gave
