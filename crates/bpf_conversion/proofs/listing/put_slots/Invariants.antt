use Rattle.std.proofs.Common.{◌≡◌, ◌++◌, ◌-◌}
use Rattle.std.specs.Prelude.{flat_map}
use Rattle.std.specs.List.{range_with_len}
use Rattle.bpf_conversion.specs.Listed.{slot_text, slots_text}
use Rattle.bpf_conversion.proofs.listing.put_slots.Given as goal

-- what is put, and the lines that are left, are what is to be put
abbrev pub invariant-loop-slot : goal.invariant-loop-slot
invariant-loop-slot l = l.out.items ++ flat_map (slot_text l.program.list) (range_with_len l.slot (l.to - l.slot)) ≡ l.initial.out.items ++ slots_text l.program.list l.from l.to
