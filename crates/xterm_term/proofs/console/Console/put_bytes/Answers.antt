use Rattle.std.proofs.Common.{ℕ, List, map, sym, ap, ◌∙◌}
use Rattle.xterm_term.specs.declared.sets.CharacterSet.{CharacterSet}
use Rattle.xterm_term.specs.Console.{console_of}
use Rattle.xterm_term.specs.Sets.{character_of}
use Rattle.xterm_term.specs.Puts.{all_put}
use Rattle.xterm_term.proofs.Runs.{ascii_map}
use Rattle.xterm_term.proofs.console.Console.put_bytes.Goals as goal

pub returns-in-Ascii-clause-done : goal.returns-in-Ascii-clause-done
returns-in-Ascii-clause-done c =
    let bytes = c.args.bytes.now in
    c.put_ascii.ensures.done
    ∙ ap (λ (l : List ℕ). all_put l (console_of c.args.self.now))
    (sym (ap (λ (set : CharacterSet). map (character_of set) bytes) (sym c.set_in_use.ensures ∙ c.in-Ascii.is) ∙ ascii_map bytes))
