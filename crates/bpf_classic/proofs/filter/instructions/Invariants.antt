use Rattle.std.proofs.Common.{◌≡◌, ◌++◌, drop}
use Rattle.std.specs.Prelude.{filter_map}
use Rattle.bpf_classic.specs.Auxiliary.{instruction_in}
use Rattle.bpf_classic.proofs.filter.instructions.Given as goal

-- the instructions so far and those of what is left are those of all
abbrev pub invariant-loop-raw : goal.invariant-loop-raw
invariant-loop-raw l = l.list.items ++ filter_map (instruction_in l.kind) (drop l.raw-index l.raws) ≡ filter_map (instruction_in l.kind) l.raws
