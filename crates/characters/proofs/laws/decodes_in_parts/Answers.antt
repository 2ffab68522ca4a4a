use Rattle.characters.proofs.Texts.{decodes_in_parts}
use Rattle.characters.proofs.laws.decodes_in_parts.Goals as goal

pub returns : goal.returns
returns c = decodes_in_parts
