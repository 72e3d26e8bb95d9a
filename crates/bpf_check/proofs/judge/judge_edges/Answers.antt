use Rattle.std.proofs.Common.{◌+◌, true, false, ap, ◌∙◌}
use Rattle.bpf_insn.specs.Instruction.{slot_count}
use Rattle.bpf_cert.specs.View.{label_view}
use Rattle.bpf_safety.specs.Work.{leads_into_label}
use Rattle.bpf_check.specs.code.Edges.{next_of}
use Rattle.bpf_check.specs.code.Sites.{jump_edge}
use Rattle.bpf_check.proofs.EdgeLemmas.{next_is, both_compared}
use Rattle.bpf_check.proofs.judge.judge_edges.Goals as goal

pub returns-then-not-go_to_next-clause-next : goal.returns-then-not-go_to_next-clause-next
returns-then-not-go_to_next-clause-next c = next_is c.args.site.now.certificate.now (label_view c.args.old.now) c.args.cost (c.args.site.now.here.slot + slot_count c.args.site.now.insn) _ (next_of c.args.site.now.certificate.now c.args.site.now.here.slot c.args.site.now.insn c.args.state.now) c.go_to_next.new.state c.go_to_next.result false _ c.if-not-go_to_next.true (c.go_to_next.ensures ∙ ap (next_of c.args.site.now.certificate.now c.args.site.now.here.slot c.args.site.now.insn) c.judge_jump-jump.ensures.kept) c.requires.site.next_slot (c.dead.ensures.seen c.args.site.now.certificate.now (label_view c.args.old.now) c.args.cost c.requires.site.next)

pub returns-clause-next : goal.returns-clause-next
returns-clause-next c = next_is c.args.site.now.certificate.now (label_view c.args.old.now) c.args.cost (c.args.site.now.here.slot + slot_count c.args.site.now.insn) _ (next_of c.args.site.now.certificate.now c.args.site.now.here.slot c.args.site.now.insn c.args.state.now) c.go_to_next.new.state c.go_to_next.result true _ c.if-not-go_to_next.false (c.go_to_next.ensures ∙ ap (next_of c.args.site.now.certificate.now c.args.site.now.here.slot c.args.site.now.insn) c.judge_jump-jump.ensures.kept) c.requires.site.next_slot (c.judge_edge-next.ensures.seen c.args.site.now.certificate.now c.requires.site.next)

pub returns-clause-work : goal.returns-clause-work
returns-clause-work c = both_compared (leads_into_label c.args.site.now.certificate.now) (jump_edge c.args.site.now c.args.state.now) c.args.site.now.here.slot (slot_count c.args.site.now.insn) _ (next_of c.args.site.now.certificate.now c.args.site.now.here.slot c.args.site.now.insn c.args.state.now) c.go_to_next.new.state c.go_to_next.result _ _ _ c.if-not-go_to_next.false (c.go_to_next.ensures ∙ ap (next_of c.args.site.now.certificate.now c.args.site.now.here.slot c.args.site.now.insn) c.judge_jump-jump.ensures.kept) c.requires.site.next_slot c.judge_jump-jump.ensures.work (c.judge_edge-next.ensures.work c.args.site.now.certificate.now c.requires.site.next)
