use Rattle.std.proofs.Common.{◌≡◌, ◌+◌, true, List, ℕ, take, sym, subst, ◌∙◌}
use Rattle.std.proofs.lemmas.List.{take_rest}
use Rattle.std.specs.List.{list_all}
use Rattle.xterm_term.specs.Ahead.{is_narrow}
use Rattle.xterm_term.specs.Console.{console_of}
use Rattle.xterm_term.specs.Puts.{all_put}
use Rattle.xterm_term.proofs.Feeding.{left_on}
use Rattle.xterm_term.proofs.Letters.{part_put}
use Rattle.xterm_term.proofs.Runs.{all_in_parts}
use Rattle.xterm_term.proofs.console.Console.put_letters.Goals as goal

pub put_part-taken-requires-clause-narrow : goal.put_part-taken-requires-clause-narrow
put_part-taken-requires-clause-narrow c =
    let part = c.loop-rest.invariant in
    subst (λ (l : List ℕ). list_all is_narrow l ≡ true) (sym part.left) (all_in_parts is_narrow c.args.letters.now part.at c.requires).1

pub loop-rest-preserved : goal.loop-rest-preserved
loop-rest-preserved c =
    let part = c.loop-rest.invariant in
    let letters = c.args.letters.now in
    let rest = c.loop-rest.rest.now in
    let n = c.put_part-taken.result in
    record {
      at = part.at + n;
      left = take_rest rest n ∙ left_on letters rest part.at n part.left;
      put =
          part_put letters part.at n (console_of c.args.self.now) (console_of c.loop-rest.self) (console_of c.put_part-taken.new.self) part.put
          (subst (λ (l : List ℕ). console_of c.put_part-taken.new.self ≡ all_put (take n l) (console_of c.loop-rest.self)) part.left c.put_part-taken.ensures.done);
      told = λ before was. c.put_part-taken.ensures.told before (part.told before was);
    }
