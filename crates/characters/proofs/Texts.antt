-- Texts that are decoded in parts.
use Rattle.std.proofs.lemmas.List.Sums.{fold-append}
use Rattle.characters.specs.Utf8.{decoded, decoded_on}
use Rattle.characters.specs.Law.{DecodesInParts}

pub decodes_in_parts : DecodesInParts
unfolding decoded
decodes_in_parts d first second = fold-append decoded_on d first second
