use Rattle.std.proofs.Common.{◌≡◌, map, take, string_bytes, vec_len}
use Rattle.clap.specs.Words.{found_of, rows_of}
use Rattle.command_line.specs.CommandLine.{id_in, value_in}
use Rattle.command_line.proofs.words.values.read_paths.Given as goal

-- the paths so far were read
abbrev pub invariant-loop-argument : goal.invariant-loop-argument
invariant-loop-argument l =
    (map string_bytes l.paths.items ≡ map (λ a. value_in (id_in a) (rows_of (found_of l.values))) (take l.argument-index l.argument-items))
    × (vec_len l.paths ≡ l.argument-index)
