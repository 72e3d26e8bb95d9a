use Rattle.std.proofs.Common.{◌≡◌, drop}
use Rattle.bpf_classic.specs.Flow.{all_agree}
use Rattle.bpf_classic.proofs.flow.all_agree.Given as goal

-- all agree if those that are left do
abbrev pub invariant-loop-at : goal.invariant-loop-at
invariant-loop-at l = all_agree l.layout (drop l.at l.list) ≡ all_agree l.layout l.list
