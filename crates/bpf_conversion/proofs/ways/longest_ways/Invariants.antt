use Rattle.std.proofs.Common.{◌-◌, length}
use Rattle.bpf_conversion.proofs.LongestLemmas.{WaysFrom}
use Rattle.bpf_conversion.proofs.ways.longest_ways.Given as goal

-- the ways behind are right
abbrev pub invariant-back : goal.invariant-back
invariant-back l = WaysFrom l.program.list (length l.program.list - l.back) l.ways.items
