use Rattle.std.proofs.Common.{List, ap, sym, ◌∙◌}
use Rattle.tape_mend.specs.Front.{format_by, format_of}
use Rattle.tape_mend.specs.Lines.{timing_lines}
use Rattle.tape_mend.proofs.front.format_of_timing.Goals as goal

pub returns-in-Some : goal.returns-in-Some
returns-in-Some c =
    let more = format_of (timing_lines c.next_timing_line.result.1.now) in
    c.format_by.ensures more
    ∙ sym (c.loop-rest.invariant ∙ ap format_of c.next_timing_line.ensures.lines ∙ ap (λ fs. format_by fs more) c.in-Some.ensures)
