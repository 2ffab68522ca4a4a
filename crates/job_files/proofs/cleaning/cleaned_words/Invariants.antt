use Rattle.std.proofs.Common.{◌≡◌, map, take, string_bytes}
use Rattle.job_files.specs.Cleaning.{cleaned}
use Rattle.job_files.proofs.cleaning.cleaned_words.Given as goal

-- the words so far are cleaned
abbrev pub invariant-loop-word : goal.invariant-loop-word
invariant-loop-word l =
    map string_bytes l.clean.items ≡ map (λ word. cleaned (string_bytes word)) (take l.word-index l.words)
