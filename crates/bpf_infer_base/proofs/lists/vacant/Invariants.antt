use Rattle.std.proofs.Common.{◌≡◌, replicate, None}
use Rattle.bpf_infer_base.proofs.lists.vacant.Given as goal

abbrev pub invariant-loop : goal.invariant-loop
invariant-loop g l = l.list.items ≡ replicate l.counter None
