use Rattle.std.proofs.Common.{◌≡◌, ◌++◌, ◌-◌}
use Rattle.std.specs.Prelude.{flat_map}
use Rattle.std.specs.List.{range_with_len}
use Rattle.bpf_classic.specs.Template.{zero_cell}
use Rattle.bpf_classic.proofs.writing.put_cells.Given as goal

-- what is written, and the zeros of the cells that are left, are what is to be written
abbrev pub invariant-loop-cell : goal.invariant-loop-cell
invariant-loop-cell l = l.out.items ++ flat_map (zero_cell l.list) (range_with_len l.cell (16 - l.cell)) ≡ l.initial.out.items ++ flat_map (zero_cell l.list) (range_with_len 0 16)
