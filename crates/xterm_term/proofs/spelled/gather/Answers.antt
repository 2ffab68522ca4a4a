use Rattle.std.proofs.Common.{◌≤◌, ◌++◌, ◌∷◌, ◌∙◌, [], ℕ, List, ap, drop, length, subst, sym, take, true, ◌≡◌}
use Rattle.std.specs.List.{list_all}
use Rattle.std.proofs.lemmas.List.{append_assoc, take_rest}
use Rattle.characters.specs.Utf8.{Spells}
use Rattle.xterm_term.specs.Ahead.{is_narrow}
use Rattle.xterm_term.proofs.Letters.{all_in_more, spelled_alone, spelled_in_parts}
use Rattle.xterm_term.proofs.SpelledLemmas.{within_more}
use Rattle.xterm_term.proofs.spelled.gather.Goals as goal

pub loop-next-preserved : goal.loop-next-preserved
loop-next-preserved c =
    let loop = c.loop-next in
    let bytes = c.args.bytes.now in
    let next = c.in-Some.next in
    let len = c.in-Some.len in
    let left = take_rest bytes loop.taken in
    let more = loop.invariant.gathered in
    let spelled = subst (λ (l : List ℕ). Spells (take len l) next) left c.in-Some.ensures.spelled in
    record {
      within = within_more bytes loop.taken len loop.invariant.within (subst (λ (l : List ℕ). len ≤ length l) left c.in-Some.ensures.within);
      narrow = subst (λ (l : List ℕ). list_all is_narrow l ≡ true) (sym c.push.ensures.items)
          (all_in_more is_narrow loop.letters.items next loop.invariant.narrow (sym c.is_narrow.ensures ∙ c.if-is_narrow.true));
      gathered = (
        more.0 ++ next ∷ [],
        spelled_in_parts bytes loop.taken len more.0 (next ∷ []) more.1 (spelled_alone (take len (drop loop.taken bytes)) next spelled),
        c.push.ensures.items ∙ ap (λ (l : List ℕ). l ++ next ∷ []) more.2 ∙ append_assoc c.args.letters.now.items more.0 (next ∷ []),
      );
    }
