use Rattle.std.proofs.Common.{◌+◌, ◌∙◌, refl, drop, ap, take}
use Rattle.std.proofs.lemmas.List.{take_rest, drop-drop}
use Rattle.tape_check.specs.Scan.{scan_step}
use Rattle.std.specs.Prelude.{fold}
use Rattle.tape_check.proofs.CountLemmas.{scanned_none, scanned_on}
use Rattle.tape_check.proofs.scan.Scanner.take.Goals as goal

pub loop-rest-init : goal.loop-rest-init
loop-rest-init c = record { at = 0; left = refl; scanned = λ s follows. scanned_none c.args.self.now s follows }

pub loop-rest-preserved : goal.loop-rest-preserved
loop-rest-preserved c =
    let fed = c.loop-rest.invariant in
    let bytes = c.args.bytes.now in
    let rest = c.loop-rest.rest.now in
    let n = c.in_ok-taken.taken in
    record {
      at = fed.at + n;
      left = take_rest rest n ∙ ap (drop n) fed.left ∙ drop-drop n fed.at bytes;
      scanned = λ s follows.
          let before = fed.scanned s follows in
          scanned_on c.args.self.now c.loop-rest.self c.take_some.new.self s bytes rest fed.at n fed.left before
          (c.in_ok-taken.ensures.scanned (fold scan_step s (take fed.at bytes)) before.follows);
    }
