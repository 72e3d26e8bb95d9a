use Rattle.std.proofs.Common.{◌≡◌, ◌+◌, [], length}
use Rattle.std.specs.Option.{option_map_or}
use Rattle.bpf_classic.specs.Text.{numbers, numbers_from, parts}
use Rattle.bpf_classic.specs.declared.border.Border.TheVariants.{Word}
use Rattle.bpf_classic.proofs.line.numbers.Given as goal

-- what is left goes on from the words so far
abbrev pub invariant-words : goal.invariant-words
invariant-words l = numbers l.fn.line ≡ numbers_from l.found (option_map_or (λ text. parts Word text.now) l.rest [])

abbrev pub decreases-words : goal.decreases-words
decreases-words l = option_map_or (λ text. length text.now + 1) l.rest 0
