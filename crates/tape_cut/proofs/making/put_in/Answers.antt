use Rattle.std.proofs.Common.{◌≡◌, ◌+◌, ◌-◌, take, drop, ap, arith}
use Rattle.std.proofs.lemmas.Result.{err_from_is_err_and}
use Rattle.tape_cut.proofs.PuttingLemmas.{putting_all, putting_more, putting_none, putting_refused}
use Rattle.tape_cut.proofs.making.put_in.Goals as goal

pub loop-start-init : goal.loop-start-init
loop-start-init g c = putting_none c.args.session.now c.args.at c.args.delay c.args.text.now

pub returns-in_err-insert-clause-made : goal.returns-in_err-insert-clause-made
returns-in_err-insert-clause-made g c =
    let p = err_from_is_err_and c.from_residual.result c.from_residual.ensures.1 in
    let start = c.loop-start.start in
    let len = c.min-len.result in
    let same : start + len - start ≡ len = omega arith in
    rw (p.1, p.2)
    (putting_refused c.args.session.now c.loop-start.session c.insert.new.session c.args.at c.args.delay c.args.text.now c.loop-start.place c.loop-start.wait start len
    c.loop-start.invariant (omega arith) (omega arith) (take (start + len - start) (drop start c.args.text.now))
    (ap (λ n. take n (drop start c.args.text.now)) same) _ c.in_err-insert.ensures)

pub loop-start-preserved : goal.loop-start-preserved
loop-start-preserved g c =
    let start = c.loop-start.start in
    let len = c.min-len.result in
    let same : start + len - start ≡ len = omega arith in
    putting_more c.args.session.now c.loop-start.session c.insert.new.session c.args.at c.args.delay c.args.text.now c.loop-start.place c.loop-start.wait start len
    c.loop-start.invariant (omega arith) (omega arith) (take (start + len - start) (drop start c.args.text.now))
    (ap (λ n. take n (drop start c.args.text.now)) same) c.in_ok-insert.ensures

pub returns-clause-made : goal.returns-clause-made
returns-clause-made g c =
    (putting_all c.args.session.now c.loop-start.session c.args.at c.args.delay c.args.text.now c.loop-start.place c.loop-start.wait c.loop-start.start
    c.loop-start.invariant (omega arith)).0

pub returns-clause-place : goal.returns-clause-place
returns-clause-place g c =
    (putting_all c.args.session.now c.loop-start.session c.args.at c.args.delay c.args.text.now c.loop-start.place c.loop-start.wait c.loop-start.start
    c.loop-start.invariant (omega arith)).1
