use Rattle.std.proofs.Common.{◌≡◌, map, drop}
use Rattle.bpf_text.specs.Assembly.{line_at}
use Rattle.bpf_text.specs.code.SourceSeen.{said_seen}
use Rattle.bpf_text.proofs.assembler.line_at.Given as goal

abbrev pub invariant-loop-statement : goal.invariant-loop-statement
invariant-loop-statement l = line_at l.slot (map said_seen (drop l.statement-index l.said)) ≡ line_at l.slot (map said_seen l.said)
