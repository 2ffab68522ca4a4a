use Rattle.std.proofs.Common.{ℕ, ◌∙◌, List, ◌++◌, ap, length, subst, sym, take}
use Rattle.std.specs.List.{flat_map, range_with_len}
use Rattle.std.proofs.lemmas.List.{take_rest}
use Rattle.std.proofs.lemmas.Result.{err_from_is_err_and}
use Rattle.tape_core.specs.Devices.{Gave}
use Rattle.text_find.specs.Lines.{AreStill, Began, byte_lines}
use Rattle.text_find.proofs.BeganLemmas.{began_first, began_second}
use Rattle.text_find.proofs.CalmLemmas.{rest_in_three}
use Rattle.text_find.proofs.PieceLemmas.{all_pieces}
use Rattle.text_find.proofs.each_byte.put_chunk.Goals as goal

pub returns-in_err-put_gone-clause-front : goal.returns-in_err-put_gone-clause-front
returns-in_err-put_gone-clause-front g c = λ profile before h between are calm.
    let p = err_from_is_err_and c.from_residual.result c.from_residual.ensures.1 in
    let m = c.args.moment in
    let pairs = c.alone_of-alone.ensures c.args.text.now _ _ (sym c.requires.len) between in
    let bytes = c.args.bytes.now in
    let start = c.args.start in
    let ends = c.args.ends.now in
    let all = rest_in_three c.args.text.now m.index m.due m.len (g.F.Finder.screens profile) before bytes start ends.before ends.after c.requires.len c.requires.start between.before between.after calm in
    let contents = g.W.Write.contents in
    rw p.1 (subst (λ t. Began contents c.args.writer.now c.put_gone.new.writer t) all
    (began_first contents c.args.writer.now c.put_gone.new.writer _ _ (began_first contents c.args.writer.now c.put_gone.new.writer _ _ (c.in_err-put_gone.ensures.front pairs))))

pub returns-in_err-put_bytes-clause-front : goal.returns-in_err-put_bytes-clause-front
returns-in_err-put_bytes-clause-front g c = λ profile before h between are calm.
    let p = err_from_is_err_and c.from_residual-in_err-put_bytes.result c.from_residual-in_err-put_bytes.ensures.1 in
    let m = c.args.moment in
    let pairs = c.alone_of-alone.ensures c.args.text.now _ _ (sym c.requires.len) between in
    let bytes = c.args.bytes.now in
    let start = c.args.start in
    let ends = c.args.ends.now in
    let played = before ++ take start bytes in
    let lines = λ (b : List ℕ). flat_map (byte_lines c.args.text.now m.index m.due ends.before.rows.items ends.before.places.items ends.after.rows.items ends.after.places.items
    (g.F.Finder.screens profile) played b) (range_with_len 0 (length b)) in
    let all = rest_in_three c.args.text.now m.index m.due m.len (g.F.Finder.screens profile) before bytes start ends.before ends.after c.requires.len c.requires.start between.before between.after calm in
    let contents = g.W.Write.contents in
    rw p.1 (subst (λ t. Began contents c.args.writer.now c.put_bytes.new.writer t) all
    (began_first contents c.args.writer.now c.put_bytes.new.writer _ _
    (began_second contents c.args.writer.now c.put_gone.new.writer c.put_bytes.new.writer _ _ (c.in_ok-put_gone.ensures.gave pairs) (subst (λ b. Began contents c.put_gone.new.writer c.put_bytes.new.writer (lines b)) (take_rest bytes start) (c.in_err-put_bytes.ensures.front profile played h are)))))

pub returns-in_err-put_come-clause-front : goal.returns-in_err-put_come-clause-front
returns-in_err-put_come-clause-front g c = λ profile before h between are calm.
    let p = err_from_is_err_and c.from_residual-in_err-put_come.result c.from_residual-in_err-put_come.ensures.1 in
    let m = c.args.moment in
    let pairs = c.alone_of-alone.ensures c.args.text.now _ _ (sym c.requires.len) between in
    let bytes = c.args.bytes.now in
    let start = c.args.start in
    let ends = c.args.ends.now in
    let played = before ++ take start bytes in
    let lines = λ (b : List ℕ). flat_map (byte_lines c.args.text.now m.index m.due ends.before.rows.items ends.before.places.items ends.after.rows.items ends.after.places.items
    (g.F.Finder.screens profile) played b) (range_with_len 0 (length b)) in
    let all = rest_in_three c.args.text.now m.index m.due m.len (g.F.Finder.screens profile) before bytes start ends.before ends.after c.requires.len c.requires.start between.before between.after calm in
    let contents = g.W.Write.contents in
    rw p.1 (subst (λ t. Began contents c.args.writer.now c.put_come.new.writer t) all
    (began_second contents c.args.writer.now c.put_bytes.new.writer c.put_come.new.writer _ _
    (c.gives_join.ensures.both _ _ _ _ _ (subst (λ b. Gave g.W.Write.contents c.put_gone.new.writer c.put_bytes.new.writer (lines b)) (take_rest bytes start) (c.in_ok-put_bytes.ensures.gave profile played h are)) (c.in_ok-put_gone.ensures.gave pairs)) (c.in_err-put_come.ensures.front pairs)))

pub returns-clause-gave : goal.returns-clause-gave
returns-clause-gave g c = λ profile before h between are calm.
    let m = c.args.moment in
    let pairs = c.alone_of-alone.ensures c.args.text.now _ _ (sym c.requires.len) between in
    let bytes = c.args.bytes.now in
    let start = c.args.start in
    let ends = c.args.ends.now in
    let played = before ++ take start bytes in
    let lines = λ (b : List ℕ). flat_map (byte_lines c.args.text.now m.index m.due ends.before.rows.items ends.before.places.items ends.after.rows.items ends.after.places.items
    (g.F.Finder.screens profile) played b) (range_with_len 0 (length b)) in
    let all = rest_in_three c.args.text.now m.index m.due m.len (g.F.Finder.screens profile) before bytes start ends.before ends.after c.requires.len c.requires.start between.before between.after calm in
    subst (λ t. Gave g.W.Write.contents c.args.writer.now c.put_come.new.writer t) all
    (c.gives_join.ensures.both _ _ _ _ _ (c.in_ok-put_come.ensures.gave pairs)
    (c.gives_join.ensures.both _ _ _ _ _ (subst (λ b. Gave g.W.Write.contents c.put_gone.new.writer c.put_bytes.new.writer (lines b)) (take_rest bytes start) (c.in_ok-put_bytes.ensures.gave profile played h are)) (c.in_ok-put_gone.ensures.gave pairs)))

pub returns-clause-behind : goal.returns-clause-behind
returns-clause-behind g c = λ profile before h.
    let bytes = c.args.bytes.now in
    let played = before ++ take c.args.start bytes in
    subst (g.T.Plays.shows profile c.put_bytes.new.behind) (ap (λ b. played ++ b) (take_rest bytes c.args.start) ∙ all_pieces before bytes c.args.start)
    (c.in_ok-put_bytes.ensures.behind profile played h)

pub returns-clause-steps : goal.returns-clause-steps
returns-clause-steps g c = λ profile before h are.
    let bytes = c.args.bytes.now in
    let played = before ++ take c.args.start bytes in
    subst (λ b. AreStill c.args.text.now (g.F.Finder.screens profile b) c.put_bytes.new.steps) (ap (λ b. played ++ b) (take_rest bytes c.args.start) ∙ all_pieces before bytes c.args.start)
    (c.in_ok-put_bytes.ensures.steps profile played h are)
