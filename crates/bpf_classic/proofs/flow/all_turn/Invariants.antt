use Rattle.std.proofs.Common.{◌≡◌, drop}
use Rattle.bpf_classic.specs.Flow.{all_turn}
use Rattle.bpf_classic.proofs.flow.all_turn.Given as goal

-- all turn well if those that are left do
abbrev pub invariant-loop-at : goal.invariant-loop-at
invariant-loop-at l = all_turn l.layout l.list (drop l.at l.list) ≡ all_turn l.layout l.list l.list
