use Rattle.std.proofs.Common.{List, ℕ, subst, codes, ap, ◌∙◌, ◌++◌}
use Rattle.tape_core.specs.Devices.{Gave}
use Rattle.tape_core.specs.Written.{seconds_form}
use Rattle.screen_cast.proofs.JsonLemmas.{size_is}
use Rattle.screen_cast.proofs.events.put_size.Goals as goal

pub returns : goal.returns
returns g c =
    let opens : List ℕ = codes "[" in
    let between : List ℕ = codes ", \"r\", \"" in
    let closes : List ℕ = codes "\"]\n" in
    let seconds = c.as_bytes.ensures ∙ c.seconds_text.ensures in
    subst (Gave g.W.Write.contents c.args.writer.now c.give_all.new.self)
    (ap (λ t. opens ++ (t ++ (between ++ (c.size_text.result.now ++ closes)))) seconds
    ∙ ap (λ t. opens ++ (seconds_form c.args.due ++ (between ++ (t ++ closes)))) c.size_text.ensures
    ∙ size_is c.args.due c.args.wide)
    c.give_all.ensures
