use Rattle.std.proofs.Common.{◌≡◌, ◌++◌, ◌-◌, length}
use Rattle.std.specs.Prelude.{replicate}
use Rattle.std.specs.String.{string_bytes}
use Rattle.bpf_classic.proofs.operand.pad.Given as goal

-- what is put, and the blanks that are left, are what is to be put
abbrev pub invariant-blanks : goal.invariant-blanks
invariant-blanks l =
    string_bytes l.out ++ replicate (l.width - l._at) 32 ≡ string_bytes l.initial.out ++ replicate (l.width - (length (string_bytes l.initial.out) - l.start)) 32
