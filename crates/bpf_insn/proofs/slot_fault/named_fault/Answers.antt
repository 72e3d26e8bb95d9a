use Rattle.std.proofs.Common.{sym, ◌∙◌}
use Rattle.bpf_insn.proofs.TableLemmas.{left_out_told}
use Rattle.bpf_insn.proofs.slot_fault.named_fault.Goals as goal

pub returns-in-Some : goal.returns-in-Some
returns-in-Some c = left_out_told c.args.order c.args.bytes.now c.fields_from-f.result c.in-Some.what c.fields_from-f.ensures (sym c.in-Some.is ∙ c.left_out_in.ensures)
