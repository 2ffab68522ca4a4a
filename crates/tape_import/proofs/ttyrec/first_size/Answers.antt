use Rattle.std.proofs.Common.{◌≡◌, ◌+◌, ◌-◌, drop, length, take, ap, ◌∙◌, arith}
use Rattle.tape_import.specs.Facts.{reported_size}
use Rattle.tape_import.specs.Ttyrec.{data_of, told_of}
use Rattle.tape_import.proofs.TtyrecLemmas.{take_again}
use Rattle.tape_import.proofs.ttyrec.first_size.Goals as goal

pub returns-clause-size : goal.returns-clause-size
returns-clause-size c =
    let file = c.args.file.now in
    let len : 12 + c.data_len.result - 12 ≡ length (data_of file) = omega (arith, c.data_len.ensures.len) in
    c.reported_size.ensures.size ∙ ap (λ n. reported_size (take n (drop 12 file))) len ∙ ap reported_size (take_again (told_of file) (drop 12 file))
