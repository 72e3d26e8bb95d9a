use Rattle.std.proofs.Common.{◌-◌, length}
use Rattle.bpf_classic.proofs.Tables.{TableFrom}
use Rattle.bpf_classic.proofs.writing.slots_from.Given as goal

-- the table is right for the instructions behind
abbrev pub invariant-back : goal.invariant-back
invariant-back l = TableFrom l.layout l.list (length l.list - l.back) l.table.items l.slots
