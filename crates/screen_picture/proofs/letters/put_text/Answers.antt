use Rattle.std.proofs.Common.{◌<◌, ◌++◌, List, ℕ, codes, length, arith}
use Rattle.std.specs.List.{flat_map}
use Rattle.std.proofs.lemmas.Bool.Decides.{nat_tests}
use Rattle.screen_picture.specs.Letters.{span_text}
use Rattle.screen_picture.proofs.LetterLemmas.{spans_some}
use Rattle.screen_picture.proofs.letters.put_text.Goals as goal

pub returns : goal.returns
returns g c =
    let some : 0 < length c.args.runs.now = grind (arith, nat_tests) in
    let opens : List ℕ = codes "<text y=\"15\">" in
    let closes : List ℕ = codes "</text>" in
    let spans = flat_map (span_text c.args.reversed c.args.row.now) c.args.runs.now in
    let before = c.gives_join.ensures.both _ _ _ opens spans c.put_spans.ensures c.give.ensures in
    rw (spans_some c.args.reversed c.args.row.now c.args.runs.now some)
    (c.gives_join.ensures.both _ _ _ (opens ++ spans) closes c.give-2.ensures before)
