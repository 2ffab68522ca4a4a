-- Private: what the code's size stands for.
use Rattle.tape_check.specs.declared.header.Size.{Size as SizeLent}
use Rattle.tape_check.specs.Header.{Size}

abbrev pub size_seen : SizeLent → Size
size_seen size = record { columns = size.columns.now; lines = size.lines.now }
