use Rattle.std.proofs.Common.{rules}
use Rattle.std.proofs.lemmas.Iterator.{YieldsList-from_chars, YieldsList-from_map, text_from_collect}
use Rattle.job_files.specs.Cleaning.{shown}
use Rattle.job_files.proofs.cleaning.cleaned.Goals as goal

pub returns : goal.returns
returns c =
    text_from_collect _ c.collect.ensures.ran
    (YieldsList-from_map _ shown (YieldsList-from_chars c.args.text.now c.utf8.text cc) c.map.ensures.closure (λ x r q k. search rules))
