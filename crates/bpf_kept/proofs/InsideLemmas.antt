-- Where an instruction stands, there is a slot.
use Rattle.std.proofs.Common.{◌≡◌, ℕ, ◌≤◌, List, None}
use Rattle.std.proofs.lemmas.List.{get_or_past}
use Rattle.bpf_insn.specs.Instruction.{insn_at, layout, slots}
use Rattle.bpf_insn.specs.declared.instruction.Insn.{Insn}

pub none_past : (is : List Insn) (slot : ℕ) → slots is ≤ slot → insn_at is slot ≡ None
none_past is slot past = get_or_past (layout is) slot None past
