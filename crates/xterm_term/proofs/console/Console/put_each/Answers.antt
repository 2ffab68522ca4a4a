use Rattle.std.proofs.Common.{◌≡◌, ◌+◌, true, List, ℕ, take, map, sym, subst, ◌∙◌}
use Rattle.std.proofs.lemmas.List.{take_rest}
use Rattle.std.specs.List.{list_all}
use Rattle.vt_parser.specs.Syntax.{is_graphic}
use Rattle.xterm_term.specs.Console.{console_of}
use Rattle.xterm_term.specs.Puts.{all_put}
use Rattle.xterm_term.specs.Sets.{character_of}
use Rattle.xterm_term.proofs.Feeding.{left_on}
use Rattle.xterm_term.proofs.Letters.{spelled_part_put}
use Rattle.xterm_term.proofs.Runs.{all_in_parts}
use Rattle.xterm_term.proofs.console.Console.put_each.Goals as goal

pub put_some-taken-requires-clause-graphic : goal.put_some-taken-requires-clause-graphic
put_some-taken-requires-clause-graphic c =
    let part = c.loop-rest.invariant in
    subst (λ (l : List ℕ). list_all is_graphic l ≡ true) (sym part.left) (all_in_parts is_graphic c.args.bytes.now part.at c.requires).1

pub loop-rest-preserved : goal.loop-rest-preserved
loop-rest-preserved c =
    let part = c.loop-rest.invariant in
    let bytes = c.args.bytes.now in
    let rest = c.loop-rest.rest.now in
    let n = c.put_some-taken.result in
    let set = c.args.set in
    record {
      at = part.at + n;
      left = take_rest rest n ∙ left_on bytes rest part.at n part.left;
      put =
          spelled_part_put (character_of set) bytes part.at n (console_of c.args.self.now) (console_of c.loop-rest.self) (console_of c.put_some-taken.new.self) part.put
          (subst (λ (l : List ℕ). console_of c.put_some-taken.new.self ≡ all_put (map (character_of set) (take n l)) (console_of c.loop-rest.self)) part.left
          c.put_some-taken.ensures.done);
      told = λ before was. c.put_some-taken.ensures.told before (part.told before was);
    }
