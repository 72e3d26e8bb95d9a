use Rattle.std.proofs.Common.{◌≤◌, length}
use Rattle.bpf_text.proofs.chains.Chains.is_crowded.Given as goal

abbrev pub invariant-loop : goal.invariant-loop
invariant-loop l = l.at ≤ length l.self.entries.items
