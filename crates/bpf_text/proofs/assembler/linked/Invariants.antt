use Rattle.std.proofs.Common.{◌≡◌, map, drop}
use Rattle.bpf_text.specs.Assembly.{linked, onto}
use Rattle.bpf_text.specs.code.SourceSeen.{said_seen}
use Rattle.bpf_text.specs.code.Slots.{slots_in}
use Rattle.bpf_text.proofs.assembler.linked.Given as goal

abbrev pub invariant-loop-statement : goal.invariant-loop-statement
invariant-loop-statement l = onto l.insns.items (linked (slots_in l.slots) (map said_seen (drop l.statement-index l.said))) ≡ linked (slots_in l.slots) (map said_seen l.said)
