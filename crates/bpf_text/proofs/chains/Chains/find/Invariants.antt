use Rattle.std.proofs.Common.{length, map}
use Rattle.bpf_text.specs.code.Chains.{Seeks, entry_label}
use Rattle.bpf_text.proofs.chains.Chains.find.Given as goal

abbrev pub invariant-chain : goal.invariant-chain
invariant-chain l = Seeks (length l.self.heads.items) (map entry_label l.self.entries.items) l.name l.at

abbrev pub decreases-chain : goal.decreases-chain
decreases-chain l = l.at
