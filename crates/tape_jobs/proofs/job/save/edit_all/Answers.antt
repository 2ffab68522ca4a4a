use Rattle.std.proofs.Common.{◌≡◌, ◌∙◌, ◌+◌, ap, arith, length, sym}
use Rattle.std.proofs.lemmas.Bool.Decides.{nat_tests}
use Rattle.std.proofs.lemmas.List.{nil_from_length}
use Rattle.tape_core.specs.Text.{lines_of}
use Rattle.tape_jobs.specs.Requests.{course_of, saved}
use Rattle.tape_jobs.proofs.RequestLemmas.{saved_all, saved_next, saved_refused}
use Rattle.tape_check.specs.declared.played.PlayedAs.TheVariants.{Vt}
use Rattle.tape_jobs.proofs.job.save.edit_all.Goals as goal

pub returns-clause-ok : goal.returns-clause-ok
returns-clause-ok c =
    let none : length c.loop-rest.rest.now ≡ 0 = grind (arith, nat_tests) in
    c.loop-rest.invariant.0
    ∙ saved_all (c.loop-rest.line + 1) (course_of Vt c.loop-rest.session) (lines_of c.loop-rest.rest.now)
    (ap lines_of (nil_from_length c.loop-rest.rest.now none))

pub loop-rest-preserved : goal.loop-rest-preserved
loop-rest-preserved c =
    let course = course_of Vt c.loop-rest.session in
    let lines = lines_of c.loop-rest.rest.now in
    let rest = lines_of c.next_line.result.1.now in
    let line = c.loop-rest.line + 1 in (
      c.loop-rest.invariant.0
          ∙ saved_next line course lines rest c.next_line.result.0.now c.next_line.ensures.lines
          (sym c.in_ok-fault.ensures.fault ∙ c.in_default.is)
          ∙ ap (λ k. saved (line + 1) k rest) (sym c.in_ok-fault.ensures.course),
      omega (arith, c.next_line.ensures.shorter),
    )

pub returns-in-Some-clause-fault : goal.returns-in-Some-clause-fault
returns-in-Some-clause-fault c =
    let course = course_of Vt c.loop-rest.session in
    let lines = lines_of c.loop-rest.rest.now in
    let rest = lines_of c.next_line.result.1.now in
    c.loop-rest.invariant.0
    ∙ saved_refused (c.loop-rest.line + 1) course lines rest c.next_line.result.0.now c.in-Some.fault c.next_line.ensures.lines
    (sym c.in_ok-fault.ensures.fault ∙ c.in-Some.is)
