use Rattle.std.proofs.Common.{◌≡◌, ◌++◌, ◌+◌, ◌-◌, drop}
use Rattle.std.specs.Prelude.{map}
use Rattle.bpf_classic.specs.Template.{from_on}
use Rattle.bpf_classic.proofs.converter.starts_of.Given as goal

-- the starts so far and those of what is left are all
abbrev pub invariant-loop-slots : goal.invariant-loop-slots
invariant-loop-slots l = l.starts.items ++ map (λ slots. l.first + (from_on l.table 0 - slots)) (drop l.slots-index l.table) ≡ map (λ slots. l.first + (from_on l.table 0 - slots)) l.table
