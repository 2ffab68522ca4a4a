use Rattle.std.proofs.Common.{◌≡◌, true, [], ◌∷◌, get_or, sym, ◌∙◌, arith}
use Rattle.std.proofs.lemmas.Grind.{common_steps}
use Rattle.characters.specs.Utf8.{begins}
use Rattle.characters.proofs.Spelled.{front_on}
use Rattle.characters.proofs.utf8.character_at.Goals as goal

pub read_third-requires : goal.read_third-requires
read_third-requires c =
    let is : begins (get_or c.args.bytes.now 0 0) ≡ true = grind (arith, common_steps) in
    front_on (get_or c.args.bytes.now 0 0 ∷ []) (get_or c.args.bytes.now 1 0) is (sym c.read_second.ensures ∙ c.in-More.is)

pub read_fourth-requires : goal.read_fourth-requires
read_fourth-requires c =
    let is : begins (get_or c.args.bytes.now 0 0) ≡ true = grind (arith, common_steps) in
    front_on (get_or c.args.bytes.now 0 0 ∷ get_or c.args.bytes.now 1 0 ∷ []) (get_or c.args.bytes.now 2 0)
    (front_on (get_or c.args.bytes.now 0 0 ∷ []) (get_or c.args.bytes.now 1 0) is (sym c.read_second.ensures ∙ c.in-More.is))
    (sym c.read_third.ensures ∙ c.in-More-read_third.is)
