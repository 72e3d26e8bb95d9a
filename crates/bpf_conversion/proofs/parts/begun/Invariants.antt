use Rattle.std.proofs.Common.{length, ◌-◌}
use Rattle.bpf_conversion.specs.Outline.{AreBegun}
use Rattle.bpf_conversion.proofs.parts.begun.Given as goal

-- so many have begun
abbrev pub invariant-loop-last : goal.invariant-loop-last
invariant-loop-last l = AreBegun l.starts l.last l.slot

abbrev pub decreases-loop-last : goal.decreases-loop-last
decreases-loop-last l = length l.starts - l.last
