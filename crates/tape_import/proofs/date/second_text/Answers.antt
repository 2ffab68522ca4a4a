use Rattle.std.proofs.Common.{◌≡◌, ◌%◌, ◌++◌, ◌∷◌, [], codes, ap, ◌∙◌}
use Rattle.jiff.specs.Words.{date_text}
use Rattle.tape_import.specs.Dates.{clock_text}
use Rattle.tape_import.proofs.HeaderLemmas.{date_grouped}
use Rattle.tape_import.proofs.date.second_text.Goals as goal

pub returns : goal.returns
returns c =
    let day = date_text c.date_after.result in
    let clock = clock_text (c.args.second % 86400) in
    let first : c.extend_from_slice.new.self.items ≡ day =
    c.in_ok-extend_from_slice.ensures.items ∙ ap (λ t. t ++ c.as_bytes.result.now) c.new-text.ensures.items ∙ c.as_bytes.ensures.value ∙ c.in_ok-day.ensures.ok in
    let second : c.push.new.self.items ≡ day ++ 32 ∷ [] = c.in_ok-push.ensures.items ∙ ap (λ t. t ++ 32 ∷ []) first in
    let third : c.push_clock.new.text.items ≡ (day ++ 32 ∷ []) ++ clock = c.in_ok-push_clock.ensures ∙ ap (λ t. t ++ clock) second in
    record {
      date = c.date_after.result;
      day = c.date_after.ensures;
      spelled = c.in_ok-extend_from_slice-2.ensures.items ∙ ap (λ t. t ++ codes "+00:00") third ∙ date_grouped day clock (codes "+00:00");
    }
