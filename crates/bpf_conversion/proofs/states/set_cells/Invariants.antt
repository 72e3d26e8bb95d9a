use Rattle.std.proofs.Common.{◌≡◌, drop}
use Rattle.bpf_conversion.specs.Known.{with_cells, cells_known}
use Rattle.bpf_conversion.proofs.states.set_cells.Given as goal

-- the cells that are left make of the state so far what all make of the first
abbrev pub invariant-loop-a : goal.invariant-loop-a
invariant-loop-a l = with_cells (cells_known (drop l.a-index l.list) l.state.slots) l.state ≡ with_cells (cells_known l.list l.initial.state.slots) l.initial.state
