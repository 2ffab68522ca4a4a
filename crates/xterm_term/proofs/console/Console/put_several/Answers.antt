use Rattle.std.proofs.Common.{◌≤◌, ◌+◌, ◌-◌, ℕ, List, drop, length, refl, subst, take}
use Rattle.std.proofs.lemmas.List.{take_rest}
use Rattle.xterm_term.specs.Console.{console_of}
use Rattle.xterm_term.specs.Puts.{put}
use Rattle.xterm_term.specs.Spelled.{PutsSpelled}
use Rattle.xterm_term.proofs.SpelledLemmas.{puts_behind, puts_one, within_more}
use Rattle.xterm_term.proofs.console.Console.put_several.Goals as goal

pub loop-next-preserved : goal.loop-next-preserved
loop-next-preserved c =
    let loop = c.loop-next in
    let rest = c.args.rest.now in
    let n = c.put_some_spelled-taken.result in
    let at = loop.taken + n in
    let next = c.in-Some.next in
    let len = c.in-Some.len in
    let first = put c.args.first (console_of c.args.self.now) in
    let now_ = console_of c.put_some_spelled-taken.new.self in
    let so_far : PutsSpelled (take at rest) first now_
    = puts_behind rest loop.taken n first (put loop.character (console_of loop.self)) now_
    (loop.invariant.puts (put loop.character (console_of loop.self)) refl) c.put_some_spelled-taken.ensures.done in
    let reached : at ≤ length rest
    = within_more rest loop.taken n loop.invariant.within
    (subst (λ (l : List ℕ). n ≤ length l) (take_rest rest loop.taken) c.put_some_spelled-taken.ensures.within) in
    let left = take_rest rest at in
    record {
      within = within_more rest at len reached (subst (λ (l : List ℕ). len ≤ length l) left c.in-Some.ensures.within);
      puts = λ t told.
          puts_behind rest at len first now_ t so_far
          (puts_one (take len (take (length rest - at) (drop at rest))) next now_ t c.in-Some.ensures.spelled told);
      told = λ before was. c.put_some_spelled-taken.ensures.told before (loop.invariant.told before was);
    }

pub returns-in-None-clause-done : goal.returns-in-None-clause-done
returns-in-None-clause-done c =
    let loop = c.loop-next in
    puts_behind c.args.rest.now loop.taken c.put_some_spelled-taken.result (put c.args.first (console_of c.args.self.now))
    (put loop.character (console_of loop.self)) (console_of c.put_some_spelled-taken.new.self)
    (loop.invariant.puts (put loop.character (console_of loop.self)) refl) c.put_some_spelled-taken.ensures.done
