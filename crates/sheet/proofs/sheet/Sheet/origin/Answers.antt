use Rattle.std.proofs.Common.{◌-◌, ◌<◌, length, sym, ap, ◌∙◌, arith}
use Rattle.std.proofs.lemmas.List.{get_or_default}
use Rattle.sheet.specs.Grid.{Grid, origin_of}
use Rattle.sheet.specs.View.{held_of}
use Rattle.sheet.proofs.Index.{inside}
use Rattle.sheet.proofs.Tables.{nth_is}
use Rattle.sheet.proofs.sheet.Sheet.origin.Goals as goal

pub index-requires : goal.index-requires
index-requires c = omega (arith, inside (held_of c.self.inside) _ c.self.invariant c.self.view_is c.args.line c.requires.low c.requires.high, c.self.invariant.origins, c.self.inside.origins.ok.0)

pub returns : goal.returns
returns c =
    let origins = c.self.inside.origins.items in
    let below : c.args.line - 1 < length origins = omega (arith, inside (held_of c.self.inside) _ c.self.invariant c.self.view_is c.args.line c.requires.low c.requires.high, c.self.invariant.origins) in
    c.index.ensures ∙ get_or_default origins (c.args.line - 1) _ 0 below ∙ sym (nth_is 0 origins c.args.line c.requires.low) ∙ ap (λ (g : Grid). origin_of g.origins c.args.line) c.self.view_is
