use Rattle.std.proofs.Common.{◌+◌, ◌-◌, Bor, IfSome, Option, ap, arith, length, subst, sym, take}
use Rattle.std.proofs.lemmas.List.{length-drop, take_rest}
use Rattle.vt_term.specs.Console.{Console}
use Rattle.vt_term.specs.Seen.{Shows}
use Rattle.vt_term.specs.Term.{Term, play}
use Rattle.screen_print.specs.declared.key.Key.{Key}
use Rattle.screen_print.specs.Skim.{IsLacked, LacksUpTo, NowhereUpTo, ScreenLacks}
use Rattle.screen_print.proofs.EachByteLemmas.{shows_start}
use Rattle.screen_print.proofs.SkimLemmas.{if_some, lacks_nowhere, nowhere_on, nowhere_start, play_on}
use Rattle.screen_print.proofs.each_byte.passes.Goals as goal

pub loop-done-init : goal.loop-done-init
loop-done-init c =
    let text = c.args.text.now in
    let bytes = c.args.bytes.now in
    let terminal = c.args.terminal.now in
    let key = c.args.first.now in
    let lacked = c.requires.first in
    record {
      within = omega arith;
      known = lacked;
      nowhere = λ x shows. nowhere_start key.chars.now text x bytes lacked.keyed.proper lacked.part
          (subst (λ (s : Console). ScreenLacks key.chars.now s.picture) (sym shows.console) lacked.lacks);
      shows = λ x shows. shows_start terminal x shows;
      scratch = c.requires.scratch;
    }

pub loop-done-preserved : goal.loop-done-preserved
loop-done-preserved c =
    let text = c.args.text.now in
    let bytes = c.args.bytes.now in
    let before = c.args.terminal.now in
    let terminal = c.skim_some-skimmed.new.terminal in
    let done = c.loop-done.done in
    let n = c.skim_some-skimmed.result.taken in
    let kept = c.loop-done.invariant in
    let tail = take_rest bytes done in
    let key = c.in-Some.key.now in
    let lacked : IsLacked text key c.loop-done.terminal.console.picture =
    subst (λ (found : Option (Bor Key)). IfSome found (λ k. IsLacked text k.now c.loop-done.terminal.console.picture)) c.in-Some.is kept.known in
    let nowhere : (x : Term) → Shows before x → NowhereUpTo text x bytes done =
    subst (λ (found : Option (Bor Key)). IfSome found (λ _. (x : Term) → Shows before x → NowhereUpTo text x bytes done)) c.in-Some.is kept.nowhere in
    let shows : (x : Term) → Shows before x → Shows terminal (play x (take (done + n) bytes)) =
    λ x h. subst (Shows terminal) (sym (play_on c.plays_in_parts.ensures x bytes done n))
    (subst (λ b. Shows terminal (play (play x (take done bytes)) (take n b))) tail (c.skim_some-skimmed.ensures.shows (play x (take done bytes)) (kept.shows x h))) in
    record {
      within = omega (arith, c.skim_some-skimmed.ensures.within, ap length tail, length-drop done bytes);
      known = c.kept_or_found-current.ensures;
      nowhere = if_some (λ (k : Bor Key). IsLacked text k.now terminal.console.picture) (λ _. (x : Term) → Shows before x → NowhereUpTo text x bytes (done + n))
          c.kept_or_found-current.result c.kept_or_found-current.ensures
          (λ next now x h.
          nowhere_on c.plays_in_parts.ensures key.chars.now text x bytes done n lacked.keyed.proper lacked.part (nowhere x h)
          (subst (λ b. LacksUpTo key.chars.now (play x (take done bytes)) b (n - 1)) tail (c.skim_some-skimmed.ensures.lacks (play x (take done bytes)) (kept.shows x h)))
          (lacks_nowhere next.now.chars.now text (play x (take (done + n) bytes)) now.keyed.proper now.part
          (subst (λ (s : Console). ScreenLacks next.now.chars.now s.picture) (sym (shows x h).console) now.lacks)));
      shows = shows;
      scratch = c.skim_some-skimmed.ensures.scratch;
    }
