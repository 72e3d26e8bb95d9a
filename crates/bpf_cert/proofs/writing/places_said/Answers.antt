use Rattle.std.proofs.Common.{refl, arith}
use Rattle.bpf_cert.specs.Spelling.{contents}
use Rattle.bpf_cert.proofs.WritingLemmas.{no_entry, no_slot_entry, length-contents}
use Rattle.bpf_cert.proofs.writing.places_said.Goals as goal

pub returns-then-knows_no_slot-clause-rest : goal.returns-then-knows_no_slot-clause-rest
returns-then-knows_no_slot-clause-rest c = λ j behind. no_slot_entry c.args.state.now j c.valid.ensures.state (c.if-knows_no_slot.ensures.0 refl) behind

pub returns-else-knows_no_slot-clause-rest : goal.returns-else-knows_no_slot-clause-rest
returns-else-knows_no_slot-clause-rest c = λ j behind. no_entry (contents c.args.state.now) j (omega (arith, behind, length-contents c.args.state.now c.valid.ensures.state))
