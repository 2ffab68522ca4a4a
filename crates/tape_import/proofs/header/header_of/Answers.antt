use Rattle.std.proofs.Common.{◌≡◌, ◌++◌, ◌∷◌, [], codes, ap, ◌∙◌}
use Rattle.tape_import.specs.Facts.{told_text}
use Rattle.tape_import.proofs.HeaderLemmas.{header_line}
use Rattle.tape_import.proofs.header.header_of.Goals as goal

pub returns-clause-told : goal.returns-clause-told
returns-clause-told c =
    let started = codes "Script started on " in
    let date = c.in_ok-date.date.items in
    let told = told_text c.args.facts.now.term c.args.facts.now.size in
    let first : c.extend_from_slice.new.self.items ≡ started = c.in_ok-extend_from_slice.ensures.items ∙ ap (λ t. t ++ started) c.new-text.ensures.items in
    let second : c.extend_from_slice-2.new.self.items ≡ started ++ date =
    c.in_ok-extend_from_slice-2.ensures.items ∙ ap (λ t. t ++ c.deref.result.now) first ∙ ap (λ d. started ++ d) c.deref.ensures.value in
    let third : c.push_told.new.text.items ≡ (started ++ date) ++ told = c.in_ok-push_told.ensures ∙ ap (λ t. t ++ told) second in
    record {
      date = date;
      dated = c.in_ok-date.ensures;
      spelled = c.from_vec.ensures ∙ c.in_ok-push.ensures.items ∙ ap (λ t. t ++ 10 ∷ []) third;
    }

pub returns-clause-line : goal.returns-clause-line
returns-clause-line c = header_line c.args.facts.now c.from_vec.result c.requires (returns-clause-told c)
